-- Between the quotes of a string stands one body.
use Rattle.std.proofs.Common.{◌≡◌, ℕ, List, [], ◌∷◌, ◌++◌, refl, sym}

no_shorter : (b : ℕ) (bs : List ℕ) → ([] ++ 34 ∷ []) ≡ ((b ∷ bs) ++ 34 ∷ []) → ⊥
no_shorter b [] e = cc
no_shorter b (c ∷ bs) e = cc

before_quote : (a b : List ℕ) → a ++ 34 ∷ [] ≡ b ++ 34 ∷ [] → a ≡ b
before_quote [] [] e = refl
before_quote [] (y ∷ b) e = absurd (no_shorter y b e)
before_quote (x ∷ a) [] e = absurd (no_shorter x a (sym e))
before_quote (x ∷ a) (y ∷ b) e = let below : a ≡ b = before_quote a b cc in cc

pub one_body : (a b : List ℕ) → 34 ∷ (a ++ 34 ∷ []) ≡ 34 ∷ (b ++ 34 ∷ []) → a ≡ b
one_body a b e = before_quote a b cc
