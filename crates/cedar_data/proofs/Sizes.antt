-- An entry is no deeper than the deepest.
use Rattle.std.proofs.Common.{ℕ, zero, suc, ◌<◌, ◌≤◌, List, [], ◌∷◌, length, get_or, arith}
use Rattle.std.specs.Map.{values_of}
use denote.Param.Weighed.{most}

-- a value among the entries is no deeper than the deepest
pub most_at : {K X : Type 0} (f : X → ℕ) (es : List (K × X)) (i : ℕ) (d : K × X) → i < length es
    → f (get_or es i d).1 ≤ most f (values_of es)
most_at f [] i d h = absurd (omega arith)
most_at f (e ∷ es) zero d h = omega arith
most_at f (e ∷ es) (suc i) d h = omega (arith, most_at f es i d (omega arith))
