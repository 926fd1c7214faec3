-- Whether one of a list passes a test, and the first that does.
use Rattle.std.proofs.Common.{◌≡◌, ℕ, zero, suc, ◌+◌, ◌<◌, ◌≤◌, Bool, true, false, cond, ◌||◌, List, [], ◌∷◌, length}
use Rattle.std.proofs.Common.{get_or}
use Rattle.std.proofs.Common.{take, drop, Option, Some, None, refl, sym, ap, ◌∙◌, arith}
use Rattle.std.specs.List.{list_any, find}
use Rattle.std.specs.Prelude.{MatchOption}
use Rattle.std.proofs.lemmas.Bool.{or_right}
use Rattle.std.proofs.lemmas.List.{take_all}
use Rattle.schema_build_text.proofs.Rowed.{dropped}

neither : (a b : Bool) → (a || b) ≡ false → (a ≡ false) × (b ≡ false)
neither true b h = absurd (cc)
neither false b h = (refl, h)

nor : (a b : Bool) → a ≡ false → b ≡ false → (a || b) ≡ false
nor true b h k = absurd (cc)
nor false b h k = k

pub taken_at : {A : Type 0} (xs : List A) (n i : ℕ) (d : A) → i < n → get_or (take n xs) i d ≡ get_or xs i d
taken_at [] n i d h = by n
  where
    by : (n : ℕ) → get_or (take n []) i d ≡ get_or [] i d
    by zero = refl
    by (suc n) = refl
taken_at (x ∷ xs) zero i d h = absurd (omega arith)
taken_at (x ∷ xs) (suc n) zero d h = refl
taken_at (x ∷ xs) (suc n) (suc i) d h = taken_at xs n i d (omega arith)

pub none_past : {A : Type 0} (p : A → Bool) (xs : List A) (i : ℕ) → length xs ≤ i → list_any p (drop i xs) ≡ false
none_past p [] i h = by i
  where
    by : (i : ℕ) → list_any p (drop i []) ≡ false
    by zero = refl
    by (suc i) = refl
none_past p (x ∷ xs) zero h = absurd (omega arith)
none_past p (x ∷ xs) (suc i) h = none_past p xs i (omega arith)

module _ {A : Type 0} (p : A → Bool) where
  pub any_at : (xs : List A) (i : ℕ) (d : A) → i < length xs → d ≡ get_or xs i d → p d ≡ true → list_any p xs ≡ true
  any_at [] i d h e t = absurd (omega arith)
  any_at (x ∷ xs) zero d h e t = ap (λ b. b || list_any p xs) (ap p (sym e) ∙ t)
  any_at (x ∷ xs) (suc i) d h e t = or_right (p x) (list_any p xs) (any_at xs i d (omega arith) e t)

  pub none_whole : (xs : List A) (n : ℕ) → list_any p (take n xs) ≡ false → list_any p (drop n xs) ≡ false
      → list_any p xs ≡ false
  none_whole [] n f g = refl
  none_whole (x ∷ xs) zero f g = g
  none_whole (x ∷ xs) (suc n) f g =
      let both = neither (p x) (list_any p (take n xs)) f in
      nor (p x) (list_any p xs) both.0 (none_whole xs n both.1 g)

  -- one item that does not pass, and those behind it
  pub any_step : (xs : List A) (i : ℕ) (d : A) → i < length xs → d ≡ get_or xs i d → p d ≡ false
      → list_any p (drop i xs) ≡ list_any p (drop (i + 1) xs)
  any_step xs i d h e t = ap (list_any p) (dropped xs i d h e) ∙ ap (λ b. b || list_any p (drop (i + 1) xs)) t

  pub find_step : (xs : List A) (i : ℕ) (d : A) → i < length xs → d ≡ get_or xs i d → (b : Bool) → p d ≡ b
      → find p (drop i xs) ≡ cond b (Some d) (find p (drop (i + 1) xs))
  find_step xs i d h e b t = ap (find p) (dropped xs i d h e) ∙ ap (λ c. cond c (Some d) (find p (drop (i + 1) xs))) t

  pub find_past : (xs : List A) (i : ℕ) → length xs ≤ i → find p (drop i xs) ≡ None
  find_past [] i h = by i
    where
      by : (i : ℕ) → find p (drop i []) ≡ None
      by zero = refl
      by (suc i) = refl
  find_past (x ∷ xs) zero h = absurd (omega arith)
  find_past (x ∷ xs) (suc i) h = find_past xs i (omega arith)

pub taken_length : {A : Type 0} (xs : List A) (n : ℕ) → n ≤ length xs → length (take n xs) ≡ n
taken_length [] zero h = refl
taken_length [] (suc n) h = absurd (omega arith)
taken_length (x ∷ xs) zero h = refl
taken_length (x ∷ xs) (suc n) h = ap suc (taken_length xs n (omega arith))

pub match_weaker : {A : Type 0} (o : Option A) {P Q : Type 0} {R S : A → Type 0} → (P → Q) → ((a : A) → R a → S a)
    → MatchOption o P R → MatchOption o Q S
match_weaker None f g h = f h
match_weaker (Some a) f g h = g a h
