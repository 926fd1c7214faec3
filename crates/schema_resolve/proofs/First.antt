-- What `find` finds is the first.
use Rattle.std.proofs.Common.{◌≡◌, Bool, true, false, ◌||◌, List, [], ◌∷◌, ◌++◌, Some, find, refl, sym, ap, ◌∙◌, inl}
use Rattle.std.proofs.Common.{inr}
use Rattle.std.specs.Prelude.{◌⊎◌, cond}
use Rattle.std.specs.List.{list_any}
use Rattle.std.specs.Option.{unwrap_or}
use Rattle.std.proofs.lemmas.Bool.{cases_Bool, or_parts}
use Rattle.schema_resolve.specs.MeaningLaws.{IsFirst}

module _ {A : Type 0} (p : A → Bool) where
  found_behind : (before behind : List A) (x : A) → list_any p before ≡ false → p x ≡ true
      → find p (before ++ x ∷ behind) ≡ Some x
  found_behind [] behind x none here = ap (λ b. cond b (Some x) (find p behind)) here
  found_behind (y ∷ ys) behind x none here =
      ap (λ b. cond b (Some y) (find p (ys ++ x ∷ behind))) (or_parts (p y) (list_any p ys) none).0
      ∙ found_behind ys behind x (or_parts (p y) (list_any p ys) none).1 here

  pub first_found : (xs : List A) (x : A) → IsFirst p xs x → find p xs ≡ Some x
  first_found xs x f = ap (find p) f.among ∙ found_behind f.before f.behind x f.none_before f.here

  pub found_first : (xs : List A) (x : A) → find p xs ≡ Some x → IsFirst p xs x
  found_first [] x h = cc
  found_first (y ∷ ys) x h = go (found_first ys x) (cases_Bool (p y))
    where
      go : (find p ys ≡ Some x → IsFirst p ys x) → (p y ≡ true) ⊎ (p y ≡ false) → IsFirst p (y ∷ ys) x
      go later (inl passes) =
          let same : y ≡ x = ap (λ o. unwrap_or o y) (sym (ap (λ b. cond b (Some y) (find p ys)) passes) ∙ h) in
          record {
            before = [];
            behind = ys;
            among = ap (λ z. z ∷ ys) same;
            here = ap p (sym same)
                ∙ passes;
            none_before = refl;
          }
      go later (inr fails) =
          let f = later (sym (ap (λ b. cond b (Some y) (find p ys)) fails) ∙ h) in
          record {
            before = y ∷ f.before;
            behind = f.behind;
            among = ap (λ zs. y ∷ zs) f.among;
            here = f.here;
            none_before = ap (λ b. b || list_any p f.before) fails ∙ f.none_before;
          }

  pub first_is_one : (xs : List A) (a b : A) → IsFirst p xs a → IsFirst p xs b → a ≡ b
  first_is_one xs a b f g = ap (λ o. unwrap_or o a) (sym (first_found xs a f) ∙ first_found xs b g)
