use Rattle.std.proofs.Common.{◌≡◌, ◌+◌, ◌*◌, take, drop}
use Rattle.std.specs.List.{AllZip}
use Rattle.std.specs.Map.{values_of}
use denote.Param.Weighed.{most}
use Rattle.schema_build_types.specs.declared.types.Type.{size-Type}
use Rattle.schema_build_types.specs.Content.{attributes_content}
use Rattle.schema_build_types.specs.Lacks.{attribute_lacks}
use Rattle.schema_build_recovered_types.proofs.Rows.{IsRow}
use Rattle.schema_build_recovered_types.proofs.types.+recover.Given as goal

abbrev pub decreases-recovered_variant : goal.decreases-recovered_variant
decreases-recovered_variant l = 4 * goal.size-recovered_variant l

abbrev pub decreases-recovered_type : goal.decreases-recovered_type
decreases-recovered_type l = 4 * goal.size-recovered_type l + 1

abbrev pub decreases-recovered_attributes : goal.decreases-recovered_attributes
decreases-recovered_attributes l = 4 * most (λ p. size-Type p.0) (values_of l.entries.now) + 2

abbrev pub decreases-recovered_record : goal.decreases-recovered_record
decreases-recovered_record l = 4 * most (λ p. size-Type p.0) (values_of l.attributes.now) + 3

abbrev pub invariant-recovered_attributes-loop-name : goal.invariant-recovered_attributes-loop-name
invariant-recovered_attributes-loop-name l =
    AllZip IsRow (take l.name-index l.entries) l.attributes.items
    × (attribute_lacks (attributes_content l.entries)
    ≡ attribute_lacks (attributes_content (drop l.name-index l.entries)))
