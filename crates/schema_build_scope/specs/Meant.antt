-- What is found of a reference, by the fields of the code.
use Rattle.std.specs.Prelude.{Bool, Option, if◌then◌else◌}
use Rattle.cedar_identifiers.specs.declared.internal_name.InternalName.{InternalName}
use Rattle.cedar_identifiers.specs.declared.reference_type.ReferenceType.{ReferenceType}
use Rattle.cedar_identifiers.specs.declared.reference_type.ReferenceType.TheVariants.{Common, Entity}
use Rattle.schema_resolve_targets.specs.Tried.{candidate}
use Rattle.schema_build_scope.specs.declared.meant.Meant.{Meant}

-- the kind of a name of which it is known whether it is a common type
abbrev pub kind_if : Bool → ReferenceType
kind_if is_common = if is_common then Common else Entity

-- the candidate that is meant, and what it is
abbrev pub meant_candidate : Option InternalName → InternalName → Meant → InternalName × ReferenceType
meant_candidate ns name m = (candidate ns name m.is_own, kind_if m.is_common)
