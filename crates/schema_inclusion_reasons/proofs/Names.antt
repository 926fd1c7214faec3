-- What is at a name among entries and attributes, where names rise.
use Rattle.std.proofs.Common.{◌≡◌, Bool, true, false, cond, Option, Some, None, inl, inr, refl, ap, ◌∙◌, subst}
use Rattle.std.specs.Prelude.{◌⊎◌}
use Rattle.std.specs.Ordering.{match_ordering, ordering_reverse}
use Rattle.std.specs.Str.{bytes_eq}
use Rattle.std.specs.declared.cmp.Ordering.{Ordering}
use Rattle.std.specs.declared.cmp.Ordering.TheVariants.{Less, Equal, Greater}
use Rattle.cedar_data.specs.Text.{text_cmp}
use Rattle.schema_inclusion_values.specs.Values.{Text, Val, Entries, no_entries, entry, AllEntries, below, Rises}
use Rattle.schema_inclusion_values.specs.Values.{IsThere}
use Rattle.schema_inclusion_values.proofs.Values.{text_total, not_below_itself, apart, same, same_itself}
use Rattle.schema_inclusion_reasons.specs.Misfits.{entry_at}
use Rattle.schema_inclusion_reasons.specs.FirstMisfit.{rises_behind, rises}

-- a name is another, or it is this one
pub same_or_other : (m n : Text) → (m ≡ n) ⊎ (m ≡ n → ⊥)
same_or_other m n = go (bytes_eq m n) refl
  where
    go : (b : Bool) → bytes_eq m n ≡ b → (m ≡ n) ⊎ (m ≡ n → ⊥)
    go true e = inl (same m n e)
    go false e = inr (apart m n e)

pub other_above : (n m : Text) → below n m → m ≡ n → ⊥
other_above n m h e = not_below_itself n (subst (λ x. below n x) e h)

pub other_below : (n m : Text) → below m n → m ≡ n → ⊥
other_below n m h e = not_below_itself n (subst (λ x. below x n) e h)

pub below_after : (k m n : Text) → below k m → below m n → below k n
below_after = text_total.trans

pub turned_below : (k m : Text) → text_cmp k m ≡ Greater → below m k
turned_below k m h = text_total.antisymm m k ∙ ap ordering_reverse h

-- ---- entries

here_at : (m : Text) (v : Val) (o : Option Val) (b : Bool) → b ≡ true → cond b (Some v) o ≡ Some v
here_at m v o true e = refl
here_at m v o false e = absurd (cc)

pub entry_here : (m : Text) (v : Val) (es : Entries) → entry_at m (entry m v es) ≡ Some v
entry_here m v es = here_at m v (entry_at m es) (bytes_eq m m) (same_itself m m refl)

other_at : (v : Val) (m n : Text) (o : Option Val) (b : Bool) → bytes_eq m n ≡ b → (m ≡ n → ⊥)
    → cond b (Some v) o ≡ o
other_at v m n o true e h = absurd (h (same m n e))
other_at v m n o false e h = refl

pub entry_other : (n m : Text) (v : Val) (es : Entries) → (m ≡ n → ⊥) → entry_at n (entry m v es) ≡ entry_at n es
entry_other n m v es h = other_at v m n (entry_at n es) (bytes_eq m n) refl h

pub nothing_below : (n : Text) (es : Entries) → AllEntries (λ m w. below n m) es → entry_at n es ≡ None
nothing_below n no_entries h = refl
nothing_below n (entry m v es) h = entry_other n m v es (other_above n m h.0) ∙ nothing_below n es h.1

found_in : (P : Text → Val → Type 0) (n m : Text) (v w : Val) (o : Option Val) (b : Bool) → bytes_eq m n ≡ b
    → cond b (Some v) o ≡ Some w → P m v → (o ≡ Some w → P n w) → P n w
found_in P n m v w o true e q h rest = let k : v ≡ w = cc in subst (λ x. P n x) k (subst (λ x. P x v) (same m n e) h)
found_in P n m v w o false e q h rest = rest q

pub in_entries : (P : Text → Val → Type 0) (es : Entries) (n : Text) (w : Val) → AllEntries P es
    → entry_at n es ≡ Some w → P n w
in_entries P no_entries n w all e = absurd (cc)
in_entries P (entry m v es) n w all e = found_in P n m v w (entry_at n es) (bytes_eq m n) refl e all.0
    (λ q. in_entries P es n w all.1 q)

none_in : (n m : Text) (v : Val) (o : Option Val) (b : Bool) → bytes_eq m n ≡ b → cond b (Some v) o ≡ None
    → (m ≡ n → ⊥) × (o ≡ None)
none_in n m v o true e q = absurd (cc)
none_in n m v o false e q = (apart m n e, q)

pub not_there : (n : Text) (es : Entries) → entry_at n es ≡ None → IsThere n es → ⊥
not_there n no_entries e h = h
not_there n (entry m v es) e (inl h) = (none_in n m v (entry_at n es) (bytes_eq m n) refl e).0 h
not_there n (entry m v es) e (inr h) = not_there n es (none_in n m v (entry_at n es) (bytes_eq m n) refl e).1 h

pub weaker : (P Q : Text → Val → Type 0) → ((n : Text) (v : Val) → P n v → Q n v) → (es : Entries) → AllEntries P es
    → AllEntries Q es
weaker P Q f no_entries h = tt
weaker P Q f (entry n v es) h = (f n v h.0, weaker P Q f es h.1)

-- names below the first are below all
pub all_above : (k m : Text) (es : Entries) → below k m → AllEntries (λ n w. below m n) es
    → AllEntries (λ n w. below k n) es
all_above k m es h all = weaker (λ n w. below m n) (λ n w. below k n) (λ n w g. below_after k m n h g) es all

-- ---- whether names rise

rising_at : (n m : Text) (v : Val) (es : Entries) (o : Ordering) → text_cmp n m ≡ o
    → match_ordering o (rises_behind m es) false false ≡ true
    → (rises_behind m es ≡ true → AllEntries (λ k w. below m k) es × Rises es)
    → AllEntries (λ k w. below n k) (entry m v es) × Rises (entry m v es)
rising_at n m v es Less q e rest = let r = rest e in ((q, all_above n m es q r.0), (r.0, r.1))
rising_at n m v es Equal q e rest = absurd (cc)
rising_at n m v es Greater q e rest = absurd (cc)

rising_behind : (n : Text) (es : Entries) → rises_behind n es ≡ true → AllEntries (λ k w. below n k) es × Rises es
rising_behind n no_entries e = (tt, tt)
rising_behind n (entry m v es) e = rising_at n m v es (text_cmp n m) refl e (rising_behind m es)

pub rising : (es : Entries) → rises es ≡ true → Rises es
rising no_entries e = tt
rising (entry n v es) e = let r = rising_behind n es e in (r.0, r.1)

falling_at : (n m : Text) (es : Entries) (o : Ordering) → text_cmp n m ≡ o
    → match_ordering o (rises_behind m es) false false ≡ false → below n m → (rises_behind m es ≡ false → ⊥) → ⊥
falling_at n m es Less q e h rest = rest e
falling_at n m es Equal q e h rest = absurd (cc)
falling_at n m es Greater q e h rest = absurd (cc)

falling_behind : (n : Text) (es : Entries) → rises_behind n es ≡ false → AllEntries (λ k w. below n k) es → Rises es → ⊥
falling_behind n no_entries e all up = absurd (cc)
falling_behind n (entry m v es) e all up = falling_at n m es (text_cmp n m) refl e all.0
    (λ q. falling_behind m es q up.0 up.1)

pub falling : (es : Entries) → rises es ≡ false → Rises es → ⊥
falling no_entries e up = absurd (cc)
falling (entry n v es) e up = falling_behind n es e up.0 up.1
