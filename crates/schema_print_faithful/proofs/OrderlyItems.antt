-- What is known of each item of a namespace, and of each namespace.
use Rattle.std.proofs.Common.{ℕ, List, Option}
use Rattle.cedar_identifiers.specs.declared.name.Name.{Name}
use Rattle.cedar_identifiers.specs.declared.raw_name.RawName.{RawName}
use Rattle.cedar_identifiers.specs.declared.unreserved_id.UnreservedId.{UnreservedId}
use Rattle.schema_json.specs.declared.action_type.ActionType.{ActionType}
use Rattle.schema_json.specs.declared.common_type.CommonType.{CommonType}
use Rattle.schema_json.specs.declared.common_type.CommonTypeId.{CommonTypeId}
use Rattle.schema_json.specs.declared.entity_type.EntityType.{EntityType}
use Rattle.schema_json.specs.declared.fragment.NamespaceDefinition.{NamespaceDefinition}
use Rattle.schema_json.specs.AsWritten.{as_written}
use Rattle.laws_written.specs.Printed.{AreProperNotes}
use Rattle.laws_print.specs.Printable.Orderly.{IsOrderlyType, IsOrderlyKind, HasOrderlyContext, IsOrderlyNamespace}

abbrev pub IsOrderlyCommon : CommonTypeId × CommonType RawName → Type 0
IsOrderlyCommon e = AreProperNotes e.1.annotations.0 × IsOrderlyType e.1.ty

abbrev pub IsOrderlyEntity : UnreservedId × EntityType RawName → Type 0
IsOrderlyEntity e = AreProperNotes e.1.annotations.0 × IsOrderlyKind e.1.kind

abbrev pub IsOrderlyAction : List ℕ × ActionType RawName as_written → Type 0
IsOrderlyAction e = AreProperNotes e.1.annotations.0 × HasOrderlyContext e.1.applies_to

abbrev pub IsOrderlyBlock : Option Name × NamespaceDefinition RawName as_written → Type 0
IsOrderlyBlock e = IsOrderlyNamespace e.1
