-- A key put among others in their order, where it is not there already.
use Rattle.std.proofs.Common.{◌≡◌, Bool, ◌||◌, List, [], ◌∷◌, refl, sym, ap, ◌∙◌}
use Rattle.std.specs.declared.cmp.Ordering.{Ordering}
use Rattle.std.specs.declared.cmp.Ordering.TheVariants.{Less, Equal, Greater}
use Rattle.std.specs.Ordering.{ordering_reverse, match_ordering}
use Rattle.std.specs.BTreeSet.{insert_key}
use Rattle.std.specs.Cmp.{IsTotalOrder}
use Rattle.std.specs.List.{AllByRecursion, list_any}
use Rattle.std.specs.List.Sorted.{IsStrictlySortedBy}
use mathlib.Core.Bool.{or_assoc, or_comm, or_self_left}
use Rattle.cedar_data.proofs.Orders.{all_above}

module _ {K : Type 0} (C : K → K → Ordering) where
  all_insert : (P : K → Type 0) (k : K) (ks : List K) → AllByRecursion P ks → P k → AllByRecursion P (insert_key C ks k)
  all_insert P k [] all here = (here, tt)
  all_insert P k (x ∷ xs) all here = by (all_insert P k xs all.1 here) (C k x)
    where
      by : AllByRecursion P (insert_key C xs k) → (r : Ordering)
          → AllByRecursion P (match_ordering r (k ∷ x ∷ xs) (x ∷ xs) (x ∷ insert_key C xs k))
      by more Less = (here, all)
      by more Equal = all
      by more Greater = (all.0, more)

  -- whether one of them passes a test that does not tell equal keys apart
  pub any_insert : (p : K → Bool) → ((j k : K) → C j k ≡ Equal → p j ≡ p k) → (k : K) (ks : List K)
      → list_any p (insert_key C ks k) ≡ (p k || list_any p ks)
  any_insert p alike k [] = refl
  any_insert p alike k (x ∷ xs) = by (any_insert p alike k xs) (C k x) refl
    where
      by : list_any p (insert_key C xs k) ≡ (p k || list_any p xs) → (r : Ordering) → C k x ≡ r
          → list_any p (match_ordering r (k ∷ x ∷ xs) (x ∷ xs) (x ∷ insert_key C xs k))
          ≡ (p k || (p x || list_any p xs))
      by more Less e = refl
      by more Equal e = sym (or_self_left (p x) (list_any p xs))
          ∙ ap (λ b. b || (p x || list_any p xs)) (sym (alike k x e))
      by more Greater e = ap (λ b. p x || b) more
          ∙ (sym (or_assoc (p x) (p k) (list_any p xs))
          ∙ (ap (λ b. b || list_any p xs) (or_comm (p x) (p k)) ∙ or_assoc (p k) (p x) (list_any p xs)))

  pub rises_insert : IsTotalOrder C → (k : K) (ks : List K) → IsStrictlySortedBy C ks
      → IsStrictlySortedBy C (insert_key C ks k)
  unfolding IsStrictlySortedBy
  rises_insert o k [] up = (tt, tt)
  rises_insert o k (x ∷ xs) up = by (rises_insert o k xs up.1) (C k x) refl
    where
      by : IsStrictlySortedBy C (insert_key C xs k) → (r : Ordering) → C k x ≡ r
          → IsStrictlySortedBy C (match_ordering r (k ∷ x ∷ xs) (x ∷ xs) (x ∷ insert_key C xs k))
      by more Less e = ((e, all_above o k x xs e up.0), up)
      by more Equal e = up
      by more Greater e =
          (all_insert (λ y. C x y ≡ Less) k xs up.0 (o.antisymm x k ∙ ap ordering_reverse e), more)
