-- References as a namespace makes them of names.
use Rattle.std.specs.Prelude.{ℕ, List, Option}
use Rattle.cedar_identifiers.specs.Candidates.{candidates}
use Rattle.cedar_identifiers.specs.declared.reference_type.ReferenceType.{ReferenceType}
use Rattle.cedar_identifiers.specs.declared.reference_type.ReferenceType.TheVariants.{Entity}
use Rattle.cedar_identifiers.specs.declared.internal_name.InternalName.{InternalName}
use Rattle.cedar_identifiers.specs.declared.raw_name.RawName.{RawName}
use Rattle.cedar_identifiers.specs.declared.conditional_name.ConditionalName.{ConditionalName}
use Rattle.schema_json.specs.Actions.{written_type}

-- what the name may stand for in the namespace, and what it asks for
abbrev pub in_namespace : Option InternalName → ReferenceType → RawName → ConditionalName
in_namespace ns role name = record { possibilities = candidates ns name.name; raw = name; reference_type = role }

-- what the type of an action may stand for, which is `Action` where none is written
abbrev pub type_in_namespace : Option InternalName → List ℕ → Option RawName → ConditionalName
type_in_namespace ns id ty = in_namespace ns Entity (record { name = written_type ty })
