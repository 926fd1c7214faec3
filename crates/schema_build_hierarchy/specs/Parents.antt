-- The parents of declared entity types and actions, by the targets of their references.
use Rattle.std.specs.Prelude.{ℕ, List, [], All, Option, Some, IsSome}
use Rattle.std.specs.List.{flat_map}
use Rattle.std.specs.Option.{option_map, option_map_or, option_to_list}
use Rattle.cedar_identifiers.specs.Names.{components_of}
use Rattle.cedar_identifiers.specs.declared.name.Name.{Name}
use Rattle.cedar_identifiers.specs.declared.name_text.NameText as named
use Rattle.cedar_identifiers.specs.declared.raw_name.RawName.{RawName}
use Rattle.cedar_identifiers.specs.declared.reference_type.ReferenceType.{ReferenceType}
use Rattle.cedar_identifiers.specs.declared.reference_type.ReferenceType.TheVariants.{Entity}
use Rattle.schema_json.specs.declared.entity_type.EntityTypeKind.{EntityTypeKind}
use Rattle.schema_json.specs.declared.entity_type.EntityTypeKind.TheVariants.{Standard, Enum}
use Rattle.schema_json.specs.declared.action_type.ActionEntityUID.{ActionEntityUID}
use Rattle.schema_json.specs.declared.action_type.ActionType.{ActionType}
use Rattle.schema_resolve_definitions.specs.Declarations.{name_of}
use Rattle.schema_resolve_definitions.specs.Tests.{Tests}
use Rattle.schema_resolve_targets.specs.Qualified.{in_namespace, type_in_namespace}
use Rattle.schema_resolve_targets.specs.Targets.{target, action_target}
use Rattle.schema_build_checks.specs.DeclaredAt.{ActionAt}
use Rattle.schema_build_hierarchy.specs.Declarations.{Declared, DeclaredEntity, entity_name, action_key}
use Rattle.schema_build_hierarchy.specs.Ancestors.{IsParentAmong, IsAncestorAmong}

-- what a name in a namespace means in the kind that is asked for, if it means something
abbrev pub target_in : Tests → Option Name → ReferenceType → RawName → Option (List (List ℕ))
target_in t ns kind name = option_map components_of (target t (in_namespace (name_of ns) kind name))

-- the action that a reference in a namespace means, if it means one
abbrev pub action_target_in : Tests → Option Name → List ℕ → Option RawName → Option (List (List ℕ) × List ℕ)
action_target_in t ns id ty =
    option_map (λ n. let a : List (List ℕ) × List ℕ = (components_of n, id) in a)
    (action_target t id (Some (type_in_namespace (name_of ns) id ty)))

-- the parents as they are written, which an enumerated type does not have
abbrev pub written_parents : EntityTypeKind RawName → List RawName
written_parents (Standard s) = s.member_of_types
written_parents (Enum choices) = []

-- the entity types that these names in a namespace mean; a name that means none gives none
abbrev pub parents_in : Tests → Option Name → List RawName → List (List (List ℕ))
parents_in t ns names = flat_map (λ p. option_to_list (target_in t ns Entity p)) names

-- the parents of a declared entity type, as written: what they mean
abbrev pub entity_parents : Tests → DeclaredEntity → List (List (List ℕ))
entity_parents t d = parents_in t d.ns (written_parents d.ty.kind)

-- each of these names in a namespace means an entity type
abbrev pub AreMeantIn : Tests → Option Name → List RawName → Type 0
AreMeantIn t ns names = All (λ p. IsSome (target t (in_namespace (name_of ns) Entity p))) names

-- each parent of a declared entity type, as written, means an entity type
abbrev pub AreParentsMeant : Tests → DeclaredEntity → Type 0
AreParentsMeant t d = AreMeantIn t d.ns (written_parents d.ty.kind)

-- b is a parent of the entity type a
abbrev pub IsParent : Tests → List DeclaredEntity → List (List ℕ) → List (List ℕ) → Type 0
IsParent t = IsParentAmong entity_name (entity_parents t)

-- b is reached from the entity type a by parents, in one step or more
abbrev pub IsAncestor : Tests → List DeclaredEntity → List (List ℕ) → List (List ℕ) → Type 0
IsAncestor t = IsAncestorAmong entity_name (entity_parents t)

module _ {G : named.Ghosts RawName} where
  -- the actions that these references in a namespace mean; one that means none gives none
  abbrev pub action_parents_in : Tests → Option Name → List (ActionEntityUID RawName G) → List (List (List ℕ) × List ℕ)
  action_parents_in t ns uids = flat_map (λ u. option_to_list (action_target_in t ns u.id u.ty)) uids

  -- the parents of a declared action, as written: the actions that they mean
  abbrev pub action_parents : Tests → Declared ActionAt (ActionType RawName G) → List (List (List ℕ) × List ℕ)
  action_parents t d = action_parents_in t d.ns (option_map_or (λ uids. uids) d.ty.member_of [])

  -- b is a parent of the action a
  abbrev pub IsActionParent : Tests → List (Declared ActionAt (ActionType RawName G))
      → List (List ℕ) × List ℕ → List (List ℕ) × List ℕ → Type 0
  IsActionParent t = IsParentAmong action_key (action_parents t)

  -- b is reached from the action a by parents, in one step or more
  abbrev pub IsActionAncestor : Tests → List (Declared ActionAt (ActionType RawName G))
      → List (List ℕ) × List ℕ → List (List ℕ) × List ℕ → Type 0
  IsActionAncestor t = IsAncestorAmong action_key (action_parents t)
