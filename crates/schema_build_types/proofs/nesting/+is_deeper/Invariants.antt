use Rattle.std.proofs.Common.{◌≡◌, ◌+◌, ◌*◌, drop}
use Rattle.std.specs.Map.{values_of}
use denote.Param.Weighed.{most}
use Rattle.schema_build_types.specs.declared.types.Type.{size-Type}
use Rattle.schema_build_types.specs.Content.{attributes_content}
use Rattle.schema_build_types.specs.Nesting.{some_are_deeper}
use Rattle.schema_build_types.proofs.nesting.+is_deeper.Given as goal

abbrev pub decreases-is_deeper : goal.decreases-is_deeper
decreases-is_deeper l = 3 * goal.size-is_deeper l

abbrev pub decreases-some_are_deeper : goal.decreases-some_are_deeper
decreases-some_are_deeper l = 3 * most (λ p. size-Type p.0) (values_of l.entries.now) + 1

abbrev pub invariant-some_are_deeper-loop-ty : goal.invariant-some_are_deeper-loop-ty
invariant-some_are_deeper-loop-ty l = some_are_deeper l.most (attributes_content l.entries)
    ≡ some_are_deeper l.most (attributes_content (drop l.ty-index l.entries))
