-- A set is one deeper than its members.
use Rattle.std.proofs.Common.{◌≡◌, ◌-◌, ℕ, zero, suc, refl, ap, arith}
use Rattle.schema_build_types.specs.Content.{TypeContent}
use Rattle.schema_build_types.specs.Content as said
use Rattle.schema_build_types.specs.Nesting.{is_deeper}

pub set_deeper : (most : ℕ) (element : TypeContent) → (most ≡ 0 → ⊥)
    → is_deeper most (said.Set element) ≡ is_deeper (most - 1) element
set_deeper zero element h = absurd (h refl)
set_deeper (suc most) element h = ap (λ n. is_deeper n element) (omega arith)
