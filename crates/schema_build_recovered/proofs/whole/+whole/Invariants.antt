use Rattle.std.proofs.Common.{◌≡◌, ◌+◌, ◌*◌, drop}
use Rattle.std.specs.Map.{values_of}
use denote.Param.Weighed.{most}
use Rattle.schema_build_types.specs.declared.types.Type.{size-Type}
use Rattle.schema_build_types.specs.Content.{attributes_content}
use Rattle.schema_build_types.specs.Lacks.{attribute_lacks}
use Rattle.schema_build_recovered.proofs.whole.+whole.Given as goal

abbrev pub decreases-is_whole : goal.decreases-is_whole
decreases-is_whole l = 3 * goal.size-is_whole l

abbrev pub decreases-are_whole : goal.decreases-are_whole
decreases-are_whole l = 3 * most (λ p. size-Type p.0) (values_of l.entries.now) + 1

abbrev pub invariant-are_whole-loop-ty : goal.invariant-are_whole-loop-ty
invariant-are_whole-loop-ty l =
    attribute_lacks (attributes_content l.entries) ≡ attribute_lacks (attributes_content (drop l.ty-index l.entries))
