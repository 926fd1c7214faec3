-- How many braces are open, and what indents by them.
use Rattle.std.proofs.Common.{◌≡◌, ℕ, zero, suc, ◌+◌, ◌≤◌, List, [], ◌∷◌, ◌++◌, length, refl, ap, ◌∙◌, arith}
use Rattle.schema_layout_pieces.specs.declared.context.Bracket.{Bracket}
use Rattle.schema_layout_pieces.specs.declared.context.Bracket.TheVariants.{Scope, Brace, Other}
use Rattle.schema_layout_pieces.specs.Layout.{depth, indent}

-- There are no more braces than brackets.
pub depth_few : (xs : List Bracket) → depth xs ≤ length xs
depth_few [] = omega arith
depth_few (Scope ∷ xs) = omega (arith, depth_few xs)
depth_few (Brace ∷ xs) = omega (arith, depth_few xs)
depth_few (Other ∷ xs) = omega (arith, depth_few xs)

pub indent_more : (n : ℕ) → indent n ++ 32 ∷ 32 ∷ [] ≡ indent (n + 1)
indent_more zero = refl
indent_more (suc n) =
    let e : suc (n + 1) ≡ suc n + 1 = omega arith in ap (λ t. 32 ∷ 32 ∷ t) (indent_more n) ∙ ap indent e
