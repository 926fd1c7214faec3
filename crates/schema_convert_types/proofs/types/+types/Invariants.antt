use Rattle.std.proofs.Common.{◌≡◌, ◌++◌, map, drop}
use Rattle.schema_convert_types.specs.Types.{attribute_of}
use Rattle.schema_convert_types.proofs.types.+types.Given as goal

abbrev pub invariant-record_of-loop-attribute : goal.invariant-record_of-loop-attribute
invariant-record_of-loop-attribute l =
    l.entries.items ++ map attribute_of (drop l.attribute-index l.fn.attributes) ≡ map attribute_of l.fn.attributes
