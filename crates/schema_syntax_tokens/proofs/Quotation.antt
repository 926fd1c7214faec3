-- The two quotes of a string.
use Rattle.std.proofs.Common.{◌≡◌, ℕ, ◌+◌, ◌<◌, List, length, take, get_or, ap, ◌∙◌, sym, subst, arith}
use Rattle.std.specs.Str.{IsUtf8, IsCharBoundary}
use Rattle.std.proofs.lemmas.List.{get_or-take, length-take-le}
use Rattle.std.proofs.lemmas.Str.{IsUtf8-take, IsCharBoundary-before_ascii, IsCharBoundary-after_ascii}

-- behind the opening quote the text may be cut
pub boundary_opened : (part opened : List ℕ) (n : ℕ) → IsUtf8 part → opened ≡ take n part → n + 1 ≡ length part
    → 0 < n → get_or part 0 0 ≡ 34 → get_or part n 0 ≡ 34 → IsCharBoundary opened 1
boundary_opened part opened n u e l s f g =
    let text : IsUtf8 opened = subst (λ t. IsUtf8 t) (sym e)
    (IsUtf8-take part n u (IsCharBoundary-before_ascii part n (omega arith) (omega arith))) in
    let size : length opened ≡ n = ap length e ∙ length-take-le n part (omega arith) in
    let first : get_or opened 0 0 ≡ 34 = ap (λ t. get_or t 0 0) e ∙ (get_or-take n part 0 0 s ∙ f) in
    IsCharBoundary-after_ascii opened 0 text (omega arith) (omega arith)
