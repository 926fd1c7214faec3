use Rattle.std.proofs.Common.{◌+◌, ◌*◌, take, All}
use Rattle.std.specs.Map.{values_of}
use denote.Param.Weighed.{most}
use Rattle.cedar_identifiers.specs.declared.raw_name.RawName.{RawName}
use Rattle.schema_json.specs.declared.types.TypeOfAttribute.{size-TypeOfAttribute}
use Rattle.schema_print_faithful.proofs.OrderlyRecords.{IsOrderlyEntry}
use Rattle.schema_print_faithful.proofs.orderly_types.+orderly.Given as goal

abbrev pub decreases-type_is_orderly : goal.decreases-type_is_orderly
decreases-type_is_orderly l = 2 * goal.size-type_is_orderly l

abbrev pub decreases-shape_is_orderly : goal.decreases-shape_is_orderly
decreases-shape_is_orderly l = 2 * goal.size-shape_is_orderly l

abbrev pub decreases-attributes_are_orderly : goal.decreases-attributes_are_orderly
decreases-attributes_are_orderly l = 2 * most (size-TypeOfAttribute RawName) (values_of l.entries.now) + 1

abbrev pub invariant-attributes_are_orderly-loop-attribute : goal.invariant-attributes_are_orderly-loop-attribute
invariant-attributes_are_orderly-loop-attribute l = All IsOrderlyEntry (take l.attribute-index l.entries)
