-- The references of a fragment that mean nothing, where it is known what is defined.
use Rattle.std.specs.Prelude.{List, Option, Some}
use Rattle.cedar_identifiers.specs.declared.internal_name.InternalName.{InternalName}
use Rattle.cedar_identifiers.specs.declared.name_text.NameText as named
use Rattle.cedar_identifiers.specs.declared.raw_name.RawName.{RawName}
use Rattle.schema_json_walk.specs.Walk.{of_fragment}
use Rattle.schema_resolve_definitions.specs.Declarations.{name_of}
use Rattle.schema_resolve_definitions.specs.Tests.{Tests}
use Rattle.schema_json.specs.declared.fragment.Fragment.{Fragment}
use Rattle.schema_resolve_targets.specs.Qualified.{in_namespace, type_in_namespace}
use Rattle.schema_resolve_targets.specs.ReferenceParts.{GivenBy, by_reference}
use Rattle.schema_resolve_targets.specs.Targets.{untargeted_type, untargeted_action}
use Rattle.schema_resolve_targets.specs.Undefined.{Undefined}

-- a reference, where nothing in the namespace or the empty one is meant by it
abbrev pub untargeted_in : Tests → Option InternalName → GivenBy RawName Undefined
untargeted_in t ns = record {
  types = λ kind name. untargeted_type t (in_namespace ns kind name);
  actions = λ id ty. untargeted_action t id (Some (type_in_namespace ns id ty));
}

module _ {G : named.Ghosts RawName} where
  -- the references that mean nothing, in the order of the walk
  abbrev pub undefined : Tests → Fragment RawName G → List Undefined
  undefined t f = of_fragment (λ ns. by_reference (untargeted_in t (name_of ns))) f
