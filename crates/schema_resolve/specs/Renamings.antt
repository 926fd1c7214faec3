-- What names become behind a namespace, and what references become where it is known what is defined.
use Rattle.std.specs.Prelude.{Option}
use Rattle.cedar_identifiers.specs.declared.reference_type.ReferenceType.TheVariants.{CommonOrEntity}
use Rattle.cedar_identifiers.specs.declared.internal_name.InternalName.{InternalName}
use Rattle.cedar_identifiers.specs.declared.raw_name.RawName.{RawName}
use Rattle.cedar_identifiers.specs.declared.conditional_name.ConditionalName.{ConditionalName}
use Rattle.schema_resolve_definitions.specs.Tests.{Tests}
use Rattle.schema_resolve_targets.specs.Qualified.{in_namespace}
use Rattle.schema_resolve_targets.specs.Targets.{target_name}
use Rattle.schema_resolve.specs.References.{either_way}
use Rattle.schema_resolve.specs.Renamed.{Renaming}

-- each name is put behind a namespace, with its candidates
abbrev pub qualifying : Option InternalName → Renaming RawName ConditionalName
qualifying ns = record { name = in_namespace ns; either = λ name. either_way (in_namespace ns CommonOrEntity name) }

-- Each reference becomes one to the name of its target. One that may mean either kind still may.
abbrev pub resolving : Tests → Renaming ConditionalName InternalName
resolving t = record { name = λ role c. target_name t c; either = λ c. either_way (target_name t c) }
