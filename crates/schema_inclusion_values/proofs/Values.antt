-- Every type has a value.
use Rattle.std.proofs.Common.{◌≡◌, Bool, true, false, cond, inl, inr, refl, sym, ◌∙◌, subst}
use Rattle.std.specs.Prelude.{⊤}
use Rattle.std.specs.Str.{bytes_eq}
use Rattle.std.proofs.lemmas.Cmp.{nat_list_cmp_total, tied_itself}
use Rattle.std.specs.Cmp.{on_total, IsTotalOrder}
use Rattle.std.specs.Str.{encode_utf8_all}
use Rattle.cedar_data.specs.Text.{text_cmp}
use Rattle.cedar_names.specs.Definitions.{same_name}
use Rattle.cedar_names.proofs.Defined.{name_itself}
use Rattle.std.proofs.lemmas.Slice.Eq.{bytes_eq-Decides}
use Rattle.cedar_names.specs.Meaning.{PlainType, Attributes, no_more, attribute}
use Rattle.schema_inclusion_values.specs.Values.{Text, Name, Val, Vals, no_vals, val, Entries, no_entries, entry}
use Rattle.schema_inclusion_values.specs.Values.{AllVals, AllEntries, below, Rises, IsThere, RequiredThere, Has}
use Rattle.schema_inclusion_values.specs.Values.{FieldHas}
use Rattle.schema_inclusion_values.specs.Values as values
use Rattle.schema_inclusion_values.specs.Formed.{AboveFields, Formed, FormedFields}
use Rattle.schema_inclusion_values.specs.Checks.{some_value, some_entries, entries_with}

-- ---- names

pub text_total : IsTotalOrder text_cmp
text_total = on_total encode_utf8_all nat_list_cmp_total

pub not_below_itself : (n : Text) → below n n → ⊥
not_below_itself n h = let e = sym h ∙ tied_itself text_total n in cc

pub apart : (m n : Text) → bytes_eq m n ≡ false → m ≡ n → ⊥
apart m n e same = let t = (bytes_eq-Decides m n).1 same in cc

pub same_itself : (m n : Text) → m ≡ n → bytes_eq m n ≡ true
same_itself m n e = (bytes_eq-Decides m n).1 e

pub names_apart : (m n : Name) → same_name m n ≡ false → m ≡ n → ⊥
names_apart m n e same = let t = subst (λ x. same_name m x ≡ true) same (name_itself m) in cc

pub same : (m n : Text) → bytes_eq m n ≡ true → m ≡ n
same m n e = (bytes_eq-Decides m n).0 e

module _ (Fits : Name → Text → Type 0) (id_of : Name → Text) where
  -- the entries take some of the fields, in order, and leave out only those that may be left out
  pub data Picks : Attributes → Entries → Type 0 where
    none : Picks no_more no_entries
    take : (n : Text) (r : Bool) (t : PlainType) (fs : Attributes) (v : Val) (es : Entries) → Has Fits t v → Picks fs es
        → Picks (attribute n r t fs) (entry n v es)
    skip : (n : Text) (t : PlainType) (fs : Attributes) (es : Entries) → Picks fs es → Picks (attribute n false t fs) es

  above : (n : Text) (fs : Attributes) (es : Entries) → AboveFields n fs → Picks fs es
      → AllEntries (λ m w. below n m) es
  above n _ _ h none = tt
  above n _ _ h (take m r t fs v es has p) = (h.0, above n fs es h.1 p)
  above n _ _ h (skip m t fs es p) = above n fs es h.1 p

  rises : (fs : Attributes) (es : Entries) → FormedFields Fits id_of fs → Picks fs es → Rises es
  rises _ _ h none = tt
  rises _ _ h (take m r t fs v es has p) = (above m fs es h.1 p, rises fs es h.2 p)
  rises _ _ h (skip m t fs es p) = rises fs es h.2 p

  pub weaker : (P Q : Text → Val → Type 0) → ((n : Text) (v : Val) → P n v → Q n v) → (es : Entries) → AllEntries P es
      → AllEntries Q es
  weaker P Q f no_entries h = tt
  weaker P Q f (entry n v es) h = (f n v h.0, weaker P Q f es h.1)

  had : (fs : Attributes) (es : Entries) → Picks fs es → AllEntries (FieldHas Fits fs) es
  had _ _ none = tt
  had _ _ (take m r t fs v es has p) = (inl (refl, has), weaker _ _ (λ n w h. inr h) es (had fs es p))
  had _ _ (skip m t fs es p) = weaker _ _ (λ n w h. inr h) es (had fs es p)

  there_later : (fs : Attributes) (n : Text) (v : Val) (es : Entries) → RequiredThere fs es
      → RequiredThere fs (entry n v es)
  there_later no_more n v es h = tt
  there_later (attribute m true t fs) n v es h = (inr h.0, there_later fs n v es h.1)
  there_later (attribute m false t fs) n v es h = there_later fs n v es h

  there_first : (m : Text) (r : Bool) (t : PlainType) (fs : Attributes) (v : Val) (es : Entries)
      → RequiredThere fs (entry m v es) → RequiredThere (attribute m r t fs) (entry m v es)
  there_first m true t fs v es h = (inl refl, h)
  there_first m false t fs v es h = h

  there : (fs : Attributes) (es : Entries) → Picks fs es → RequiredThere fs es
  there _ _ none = tt
  there _ _ (take m r t fs v es has p) = there_first m r t fs v es (there_later fs m v es (there fs es p))
  there _ _ (skip m t fs es p) = there fs es p

  pub picked : (fs : Attributes) (es : Entries) → FormedFields Fits id_of fs → Picks fs es
      → Has Fits (PlainType.Rec fs) (values.Rec es)
  picked fs es h p = (rises fs es h p, had fs es p, there fs es p)

  some_first : (n : Text) (r : Bool) (t : PlainType) (fs : Attributes) (v : Val) (es : Entries) → Has Fits t v
      → Picks fs es → Picks (attribute n r t fs) (cond r (entry n v es) es)
  some_first n true t fs v es has p = take n true t fs v es has p
  some_first n false t fs v es has p = skip n t fs es p

  mutual
    pub has_some : (t : PlainType) → Formed Fits id_of t → Has Fits t (some_value id_of t)
    has_some PlainType.Bool h = tt
    has_some PlainType.Long h = tt
    has_some PlainType.String h = tt
    has_some (PlainType.Ext n) h = refl
    has_some (PlainType.Entity n) h = (refl, h)
    has_some (PlainType.Set t) h = tt
    has_some (PlainType.Rec fs) h = picked fs (some_entries id_of fs) h (picks_some fs h)

    pub picks_some : (fs : Attributes) → FormedFields Fits id_of fs → Picks fs (some_entries id_of fs)
    picks_some no_more h = none
    picks_some (attribute n r t fs) h = some_first n r t fs _ _ (has_some t h.0) (picks_some fs h.2)

  -- v is a value of each attribute of the name
  abbrev pub Typed : Text → Val → Attributes → Type 0
  Typed n v no_more = ⊤
  Typed n v (attribute m r t fs) = (m ≡ n → Has Fits t v) × Typed n v fs

  with_first : (m : Text) (r : Bool) (t : PlainType) (fs : Attributes) (n : Text) (v s : Val) (es : Entries) (b : Bool)
      → bytes_eq m n ≡ b → (m ≡ n → Has Fits t v) → Has Fits t s → Picks fs es
      → Picks (attribute m r t fs) (cond b (entry m v es) (cond r (entry m s es) es))
  with_first m r t fs n v s es true e typed has p = take m r t fs v es (typed (same m n e)) p
  with_first m r t fs n v s es false e typed has p = some_first m r t fs s es has p

  pub picks_with : (n : Text) (v : Val) (fs : Attributes) → FormedFields Fits id_of fs → Typed n v fs
      → Picks fs (entries_with id_of n v fs)
  picks_with n v no_more h typed = none
  picks_with n v (attribute m r t fs) h typed = with_first m r t fs n v (some_value id_of t) _
      (bytes_eq m n) refl typed.0 (has_some t h.0) (picks_with n v fs h.2 typed.1)
