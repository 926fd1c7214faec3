-- What a fragment declares, each name with its namespace in front.
use Rattle.std.specs.Prelude.{ℕ, List, [], map, Option, None}
use Rattle.std.specs.Option.{option_map}
use Rattle.cedar_identifiers.specs.Names.{components_of}
use Rattle.cedar_identifiers.specs.Candidates.{qualified}
use Rattle.cedar_identifiers.specs.declared.id.Id.{Id}
use Rattle.cedar_identifiers.specs.declared.name.Name.{Name}
use Rattle.cedar_identifiers.specs.declared.internal_name.InternalName.{InternalName}
use Rattle.cedar_identifiers.specs.declared.name_text.NameText as named
use Rattle.cedar_names.specs.Definitions.{Definitions}
use Rattle.schema_json.specs.Actions.{action_name}
use Rattle.std.specs.List.{flat_map}
use Rattle.schema_json.specs.declared.fragment.NamespaceDefinition.{NamespaceDefinition}
use Rattle.schema_json.specs.declared.fragment.Fragment.{Fragment}

-- a word as a name, without a place
abbrev pub alone : Id → InternalName
alone id = record { first = id; others = []; loc = None }

-- a namespace's name, which the empty one does not have
abbrev pub name_of : Option Name → Option InternalName
name_of ns = option_map (λ n. n.name) ns

-- a declared name
abbrev pub declared_name : Option Name → Id → InternalName
declared_name ns id = qualified (name_of ns) (alone id)

-- the type of the actions of a namespace
abbrev pub action_type : Option Name → InternalName
action_type ns = qualified (name_of ns) action_name

module _ {N : Type 0} {G : named.Ghosts N} where
  abbrev pub commons_in : Option Name → NamespaceDefinition N G → List (List (List ℕ))
  commons_in ns n = map (λ e. components_of (declared_name ns e.0.id.id)) n.common_types

  abbrev pub entities_in : Option Name → NamespaceDefinition N G → List (List (List ℕ))
  entities_in ns n = map (λ e. components_of (declared_name ns e.0.id)) n.entity_types

  abbrev pub actions_in : Option Name → NamespaceDefinition N G → List (List (List ℕ) × List ℕ)
  actions_in ns n = map (λ e. (components_of (action_type ns), e.0)) n.actions

  -- the common types, the entity types and the actions that a fragment declares
  abbrev pub declared : Fragment N G → Definitions
  declared f =
      record {
        commons = flat_map (λ e. commons_in e.0 e.1) f.0;
        entities = flat_map (λ e. entities_in e.0 e.1) f.0;
        actions = flat_map (λ e. actions_in e.0 e.1) f.0;
      }
