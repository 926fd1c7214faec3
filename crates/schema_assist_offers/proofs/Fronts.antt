-- Texts that begin with a front are kept.
use Rattle.std.proofs.Common.{◌≡◌, ℕ, Bool, true, false, List, [], ◌∷◌, length, drop, cond, refl}
use Rattle.std.proofs.Common.{Contains, sym, subst, arith, nat_eq}
use Rattle.std.specs.Prelude.{zero, suc}
use Rattle.std.specs.List.{starts_with}
use Rattle.std.proofs.lemmas.Bool.Decides.{nat_tests}
use Rattle.std.proofs.lemmas.Slice.Eq.{starts_is}
use Rattle.cedar_data.proofs.Lists.{contains_first}
use Rattle.schema_assist_offers.specs.Offers.{Completes}
use Rattle.schema_assist_offers.specs.Spellings.{kept}

decides : (a b : ℕ) → (nat_eq a b ≡ true → a ≡ b) × (a ≡ b → nat_eq a b ≡ true)
decides a b = (λ h. grind (arith, nat_tests), λ h. grind (arith, nat_tests))

-- a text begins so where the test says so
pub begins_so : (s front : List ℕ) → starts_with nat_eq s front ≡ true → Completes s front
begins_so s front h = (drop (length front) s, (starts_is decides s front (starts_with nat_eq s front) refl).0 h)

pub so_begins : (s front : List ℕ) → Completes s front → starts_with nat_eq s front ≡ true
so_begins s front h = (starts_is decides s front (starts_with nat_eq s front) refl).1 h.0 h.1

-- what is kept is the text, where it begins so
pub kept_is : (front s x : List ℕ) → Contains (kept front s) x → (x ≡ s) × Completes s front
kept_is front s x h = go (starts_with nat_eq s front) refl h
  where
    go : (b : Bool) → starts_with nat_eq s front ≡ b → Contains (cond b (s ∷ []) []) x → (x ≡ s) × Completes s front
    go true e (zero, l, is) = (sym is, begins_so s front e)
    go true e (suc k, l, is) = absurd (omega arith)
    go false e (k, l, is) = absurd (omega arith)

pub is_kept : (front s : List ℕ) → Completes s front → Contains (kept front s) s
is_kept front s h =
    subst (λ b. Contains (cond b (s ∷ []) []) s) (sym (so_begins s front h)) (contains_first s [])
