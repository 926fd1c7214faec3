-- What kind of entity type the members say.
use Rattle.std.specs.Prelude.{List, Option, Some, None}
use Rattle.cedar_identifiers.specs.declared.eid.Eid.{Eid}
use Rattle.cedar_identifiers.specs.declared.raw_name.RawName.{RawName}
use Rattle.schema_json.specs.declared.types.Type.{«Type»}
use Rattle.schema_json.specs.declared.entity_type.EntityTypeKind.{EntityTypeKind}
use Rattle.schema_json.specs.declared.entity_type.EntityTypeKind.TheVariants.{Standard, Enum}

-- with choices it is an enumeration
abbrev pub kind_from : Option (List Eid) → List RawName → «Type» RawName → Option («Type» RawName)
    → EntityTypeKind RawName
kind_from (Some choices) parents shape tags = Enum choices
kind_from None parents shape tags =
    Standard (record { member_of_types = parents; shape = record { 0 = shape }; tags = tags })
