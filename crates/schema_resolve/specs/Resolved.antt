-- Fragments in which each reference is one to what it means: `means` looks at the candidates of a name in its
-- namespace.
use Rattle.std.specs.Prelude.{ℕ, List, Option, Some}
use Rattle.cedar_identifiers.specs.declared.reference_type.ReferenceType.{ReferenceType}
use Rattle.cedar_identifiers.specs.declared.reference_type.ReferenceType.TheVariants.{CommonOrEntity}
use Rattle.cedar_identifiers.specs.declared.internal_name.InternalName.{InternalName}
use Rattle.cedar_identifiers.specs.declared.name_text.NameText as named
use Rattle.cedar_identifiers.specs.declared.raw_name.RawName.{RawName}
use Rattle.schema_resolve_definitions.specs.Declarations.{name_of}
use Rattle.schema_resolve_definitions.specs.Tests.{Tests}
use Rattle.schema_json.specs.declared.fragment.Fragment.{Fragment}
use Rattle.schema_resolve.specs.Designated.{designated_reference}
use Rattle.schema_resolve_targets.specs.Qualified.{in_namespace, type_in_namespace}
use Rattle.schema_resolve.specs.Renamed.{Renaming, renamed_fragment}
use Rattle.schema_resolve_targets.specs.Targets.{target_name, action_target_name}

-- the name of what a name in a namespace means
abbrev pub meant_name : Tests → Option InternalName → ReferenceType → RawName → InternalName
meant_name t ns kind name = target_name t (in_namespace ns kind name)

-- a reference that may mean either kind becomes one to what it means
abbrev pub resolving_in : Tests → Option InternalName → Renaming RawName InternalName
resolving_in t ns = record {
  name = meant_name t ns;
  either = λ name. designated_reference t (meant_name t ns CommonOrEntity name);
}

-- the type of the action that is meant
abbrev pub meant_type : Tests → Option InternalName → List ℕ → Option RawName → InternalName
meant_type t ns id ty = action_target_name t id (Some (type_in_namespace ns id ty))

module _ {G : named.Ghosts RawName} where
  -- the fragment in which each reference is one to what it means
  abbrev pub resolved : {H : named.Ghosts InternalName} → Tests → Fragment RawName G → Fragment InternalName H
  resolved t f = renamed_fragment (λ ns. resolving_in t (name_of ns)) (λ ns. meant_type t (name_of ns)) f
