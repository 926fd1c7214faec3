-- What the target of a reference is among its candidates.
use Rattle.std.specs.Prelude.{◌≡◌, ◌⊎◌, true, false, Option, Some, None, if◌then◌else◌}
use Rattle.cedar_identifiers.specs.Names.{components_of}
use Rattle.cedar_identifiers.specs.Candidates.{behind, is_unqualified}
use Rattle.cedar_identifiers.specs.declared.reference_type.ReferenceType.{ReferenceType}
use Rattle.cedar_identifiers.specs.declared.internal_name.InternalName.{InternalName}
use Rattle.cedar_identifiers.specs.declared.raw_name.RawName.{RawName}
use Rattle.schema_resolve_definitions.specs.Tests.{Tests}
use Rattle.schema_resolve_targets.specs.Qualified.{in_namespace}
use Rattle.schema_resolve_targets.specs.Targets.{is_defined, target}

abbrev pub if_defined : Tests → ReferenceType → InternalName → Option InternalName → Option InternalName
if_defined t kind name other = if is_defined t kind (components_of name) then Some name else other

-- an unqualified name in a namespace means itself there, else itself as it is, each where it is defined in the kind
-- asked for
abbrev pub OwnThenPlain : Tests → InternalName → ReferenceType → RawName → Type 0
OwnThenPlain t ns kind name = is_unqualified name.name ≡ true
    → target t (in_namespace (Some ns) kind name)
    ≡ if_defined t kind (behind ns name.name) (if_defined t kind name.name None)

-- a qualified name means itself, where that is defined, and else nothing; so does any name in the empty namespace
abbrev pub ItselfOrNothing : Tests → Option InternalName → ReferenceType → RawName → Type 0
ItselfOrNothing t ns kind name = (is_unqualified name.name ≡ false) ⊎ (ns ≡ None)
    → target t (in_namespace ns kind name) ≡ if_defined t kind name.name None
