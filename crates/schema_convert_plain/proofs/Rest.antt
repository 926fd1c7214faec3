-- Items that are all so, seen one after another: where those that are left are so, all are.
use Rattle.std.proofs.Common.{◌≡◌, ℕ, suc, ◌+◌, ◌<◌, List, ◌∷◌, length, get_or, drop, sym, ap, ◌∙◌, subst}
use Rattle.std.proofs.Common.{drop-cons, add-one}
use Rattle.std.proofs.Common.{Option, Some, None, is_some, false, true≢false}
use Rattle.std.specs.Borrow.{Bor}
use Rattle.std.specs.Option.{option_copied}
use Rattle.std.specs.List.{AllByRecursion}

-- what is absent where it is borrowed
pub absent : {X : Type 0} (o : Option (Bor X)) (l : Option X) → option_copied o ≡ l → is_some o ≡ false → l ≡ None
absent None l same none = sym same
absent (Some x) l same none = absurd (true≢false none)

module _ {A G : Type 0} (P : A → Type 0) where
  pub rest_more : (left left' : List A) (x : A) → (AllByRecursion P left → G) → left ≡ x ∷ left' → P x
      → AllByRecursion P left' → G
  rest_more left left' x h e p rest = h (subst (AllByRecursion P) (sym e) (p, rest))

  pub rest_more_at : (xs : List A) (i : ℕ) (x : A) → (AllByRecursion P (drop i xs) → G) → i < length xs
      → x ≡ get_or xs i x → P x → AllByRecursion P (drop (i + 1) xs) → G
  rest_more_at xs i x h lt e p rest =
      rest_more (drop i xs) (drop (i + 1) xs) x h
      (drop-cons xs i x lt ∙ (ap (λ y. y ∷ drop (suc i) xs) (sym e) ∙ ap (λ j. x ∷ drop j xs) (sym (add-one i)))) p rest
