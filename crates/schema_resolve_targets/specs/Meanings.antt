-- What a reference means.
use Rattle.std.specs.Prelude.{Option, if◌then◌else◌}
use Rattle.std.specs.Option.{option_map}
use Rattle.cedar_identifiers.specs.Names.{components_of}
use Rattle.cedar_identifiers.specs.declared.reference_type.ReferenceType.{ReferenceType}
use Rattle.cedar_identifiers.specs.declared.reference_type.ReferenceType.TheVariants.{Common, Entity, CommonOrEntity}
use Rattle.cedar_identifiers.specs.declared.internal_name.InternalName.{InternalName}
use Rattle.cedar_identifiers.specs.declared.raw_name.RawName.{RawName}
use Rattle.schema_resolve_definitions.specs.Tests.{Tests}
use Rattle.schema_resolve_targets.specs.Qualified.{in_namespace}
use Rattle.schema_resolve_targets.specs.Targets.{target}

-- what a name is that a reference of this kind means: of a name that is both, the common type
abbrev pub kind_there : Tests → ReferenceType → InternalName → ReferenceType
kind_there t Common name = Common
kind_there t Entity name = Entity
kind_there t CommonOrEntity name = if t.is_common (components_of name) then Common else Entity

-- the name that a reference in a namespace means, and what it is there, if it means something
abbrev pub means : Tests → Option InternalName → ReferenceType → RawName → Option (InternalName × ReferenceType)
means t ns kind name = option_map (λ n. (n, kind_there t kind n)) (target t (in_namespace ns kind name))
