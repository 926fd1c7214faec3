use Rattle.std.proofs.Common.{◌≡◌, ◌↔◌, ◌+◌, ◌*◌, drop}
use Rattle.std.specs.Map.{values_of}
use denote.Param.Weighed.{most}
use Rattle.schema_build_types.specs.declared.types.Type.{size-Type}
use Rattle.schema_build_types.specs.Content.{attributes_content}
use Rattle.schema_build_equal.proofs.types.+same_type.Given as goal

abbrev pub decreases-same_type : goal.decreases-same_type
decreases-same_type l = 3 * size-Type l.a.now

abbrev pub decreases-same_attribute : goal.decreases-same_attribute
decreases-same_attribute l = 3 * size-Type l.a.now.1.0 + 1

abbrev pub decreases-same_attributes : goal.decreases-same_attributes
decreases-same_attributes l = 3 * most (λ p. size-Type p.0) (values_of l.a.now) + 2

abbrev pub invariant-same_attributes-loop-at : goal.invariant-same_attributes-loop-at
invariant-same_attributes-loop-at l =
    (attributes_content l.a ≡ attributes_content l.b)
    ↔ (attributes_content (drop l.at l.a) ≡ attributes_content (drop l.at l.b))
