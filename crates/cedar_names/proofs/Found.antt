-- Sets of keys, by what the order sees of them.
use Rattle.std.proofs.Common.{◌≡◌, Bool, true, ◌||◌, List, [], ◌∷◌, refl, sym, ap, ◌∙◌}
use Rattle.std.specs.declared.cmp.Ordering.{Ordering}
use Rattle.std.specs.declared.cmp.Ordering.TheVariants.{Less, Equal, Greater}
use Rattle.std.specs.Ordering.{is_eq, match_ordering}
use Rattle.std.specs.List.{list_any}
use Rattle.std.specs.BTreeMap.{is_at}
use Rattle.std.specs.BTreeSet.{insert_key}
use mathlib.Core.Bool.{or-false, or_assoc, or_comm, or_self_left}

-- S is whether the order sees no difference, by what h sees of the keys
module _ {K N : Type 0} (R : K → K → Ordering) (h : K → N) (S : N → N → Bool)
    (e : (x y : K) → is_eq (R x y) ≡ S (h x) (h y)) where
  pub found : (q : K) (ks : List K) → list_any (is_at (R q)) ks ≡ list_any (λ k. S (h q) (h k)) ks
  found q [] = refl
  found q (k ∷ ks) = λ i. e q k i || found q ks i

  -- what holds of some key, once one more is there
  pub inserted : (f : N → Bool) → ((a b : N) → S a b ≡ true → f a ≡ f b) → (ks : List K) (k : K)
      → list_any (λ x. f (h x)) (insert_key R ks k) ≡ (list_any (λ x. f (h x)) ks || f (h k))
  inserted f same [] k = or-false (f (h k))
  inserted f same (x ∷ xs) k = turn (inserted f same xs k) (R k x) refl
    where
      turn : list_any (λ x. f (h x)) (insert_key R xs k) ≡ (list_any (λ x. f (h x)) xs || f (h k)) → (o : Ordering)
          → R k x ≡ o
          → list_any (λ x. f (h x)) (match_ordering o (k ∷ x ∷ xs) (x ∷ xs) (x ∷ insert_key R xs k))
          ≡ ((f (h x) || list_any (λ x. f (h x)) xs) || f (h k))
      turn rest Less lt = or_comm (f (h k)) (f (h x) || list_any (λ x. f (h x)) xs)
      turn rest Equal eq = sym (or_self_left (f (h x)) (list_any (λ x. f (h x)) xs))
          ∙ or_comm (f (h x)) (f (h x) || list_any (λ x. f (h x)) xs)
          ∙ ap (λ b. (f (h x) || list_any (λ x. f (h x)) xs) || b) (sym (same (h k) (h x) (sym (e k x) ∙ ap is_eq eq)))
      turn rest Greater gt = ap (λ b. f (h x) || b) rest
          ∙ sym (or_assoc (f (h x)) (list_any (λ x. f (h x)) xs) (f (h k)))
