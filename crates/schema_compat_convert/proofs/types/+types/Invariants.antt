use Rattle.std.proofs.Common.{◌+◌, ◌*◌, ◌≤◌}
use Rattle.std.specs.Map.{values_of}
use Rattle.std.specs.Vec.Iter.{into_iter_items}
use denote.Param.Weighed.{most}
use Rattle.schema_compat_types.specs.declared.types.TypeOfAttribute.{size-TypeOfAttribute}
use Rattle.schema_compat_convert.specs.Demands.{asks_attribute}
use Rattle.schema_compat_convert.specs.Converted.{AttributesBecome}
use Rattle.schema_compat_convert.proofs.Ahead.{Ahead}
use Rattle.schema_compat_convert.proofs.types.+types.Given as goal

abbrev pub decreases-convert_type : goal.decreases-convert_type
decreases-convert_type l = 2 * goal.size-convert_type l

abbrev pub decreases-convert_shape : goal.decreases-convert_shape
decreases-convert_shape l = 2 * goal.size-convert_shape l

abbrev pub decreases-convert_attributes : goal.decreases-convert_attributes
decreases-convert_attributes l = 2 * most size-TypeOfAttribute (values_of l.attributes.items) + 1

abbrev pub invariant-convert_attributes-loop-name : goal.invariant-convert_attributes-loop-name
invariant-convert_attributes-loop-name l = record {
  ahead : Ahead (λ e. asks_attribute e.1) AttributesBecome (into_iter_items l.name-iterator) l.fn.attributes.items
      l.out.items;
  within : most size-TypeOfAttribute (values_of (into_iter_items l.name-iterator))
      ≤ most size-TypeOfAttribute (values_of l.fn.attributes.items);
}
