-- How a built schema is put together: entity types and actions from their names, their ancestors and what is built for
-- each, and a schema from both.
use Rattle.std.specs.Prelude.{◌≡◌, ℕ, List, [], Vec, map, Option, Some, IfSome, slice_get}
use Rattle.std.specs.List.{AllZip}
use Rattle.std.specs.List.Sorted.{IsStrictlySortedBy}
use Rattle.std.specs.Map.{keys_of}
use Rattle.std.specs.declared.alloc.Global.{Global}
use Rattle.cedar_identifiers.specs.declared.name.Name.{Name}
use Rattle.cedar_identifiers.specs.declared.name_text.NameText as named
use Rattle.cedar_identifiers.specs.declared.raw_name.RawName.{RawName}
use Rattle.cedar_names.specs.Meaning.{EntityMeaning, ActionMeaning}
use Rattle.cedar_names.specs.Orders.{names_in_order, uids_in_order}
use Rattle.cedar_names.specs.declared.entity_uid.EntityUID.{EntityUID}
use Rattle.cedar_names.specs.declared.extension_table.ExtensionTable.{ExtensionTable}
use Rattle.schema_json.specs.declared.action_type.ActionType.{ActionType}
use Rattle.schema_json.specs.declared.entity_type.EntityType.{EntityType}
use Rattle.schema_json.specs.declared.fragment.Fragment.{Fragment}
use Rattle.schema_build_types.specs.Standing.{SchemaStandsFor}
use Rattle.schema_build_types.specs.declared.action.ValidatorActionId.{ValidatorActionId}
use Rattle.schema_build_types.specs.declared.action.ValidatorActionKind.{ValidatorActionKind}
use Rattle.schema_build_types.specs.declared.entity_type.ValidatorEntityType.{ValidatorEntityType}
use Rattle.schema_build_types.specs.declared.entity_type.ValidatorEntityTypeKind.{ValidatorEntityTypeKind}
use Rattle.schema_build_scope.specs.FragmentScope.{fragment_scope}
use Rattle.schema_build_hierarchy.specs.Ancestors.{AreAncestorRows}
use Rattle.schema_build_hierarchy.specs.Declarations.{entity_name, action_key, declared_entities, declared_actions}
use Rattle.schema_build_hierarchy.specs.Entries.{AreEntities, AreActions, entity_of, action_of_entry}
use Rattle.schema_build_hierarchy.specs.Parents.{IsAncestor, IsActionAncestor}
use Rattle.schema_build_hierarchy.specs.declared.entries.Entry.{Entry}
use Rattle.schema_build_items.specs.ActionKinds.{IsActionKindBuilt, tests_alone}
use Rattle.schema_build_items.specs.Kinds.{IsKindBuilt}
use Rattle.schema_build.specs.Meaning.{EntitiesMean, ActionsMean}

-- what stands at these places of the list
abbrev pub AreAt : {A : Type 0} → List A → List ℕ → List A → Type 0
AreAt names places found = map Some found ≡ map (slice_get names) places

-- the names, each as it is shared or not shared yet
abbrev pub AreSharedOf : {A : Type 0} → List A → List (Option A) → Type 0
AreSharedOf = AllZip (λ name shared. IfSome shared (λ n. n ≡ name))

-- for each list of places, what stands there
abbrev pub AreAllAt : {A : Type 0} → List A → List (Vec ℕ Global) → List (List A) → Type 0
AreAllAt names rows = AllZip (λ row. AreAt names row.items) rows

-- an entity type from its declaration, its ancestors and what is built for it
abbrev pub assembled_entity_type : (Entry Name (EntityType RawName) × List Name) × ValidatorEntityTypeKind
    → Name × ValidatorEntityType
assembled_entity_type e = (e.0.0.name, record { ancestors = e.0.1; kind = e.1 })

-- these entity types say what is meant
abbrev pub EntitiesStandFor : List (Name × ValidatorEntityType) → List EntityMeaning → Type 0
EntitiesStandFor built es = SchemaStandsFor built [] (record { entities = es; actions = [] })

-- these actions say what is meant
abbrev pub ActionsStandFor : List (EntityUID × ValidatorActionId) → List ActionMeaning → Type 0
ActionsStandFor built actions = SchemaStandsFor [] built (record { entities = []; actions = actions })

module _ {G : named.Ghosts RawName} where
  -- an action from its declaration, its ancestors and what is built for it
  abbrev pub action_of_parts : (Entry EntityUID (ActionType RawName G) × List EntityUID) × ValidatorActionKind
      → EntityUID × ValidatorActionId
  action_of_parts a = (a.0.0.name, record { ancestors = a.0.1; kind = a.1 })

  -- the declared entity types in order, with the places of the ancestors of each and what it is built as
  pub record HoldEntities (f : Fragment RawName G) (table : ExtensionTable)
      (entries : List (Entry Name (EntityType RawName)))
      (above : List (Vec ℕ Global)) (kinds : List ValidatorEntityTypeKind) : Type 0 where
    pub entities : AreEntities (declared_entities f) entries
    pub rows : AreAncestorRows (IsAncestor (tests_alone f table) (declared_entities f))
        (map (λ e. entity_name (entity_of e)) entries) above
    pub built : AllZip (IsKindBuilt (fragment_scope f table)) (map entity_of entries) kinds

  -- the declared actions in order, with the places of the ancestors of each and what it is built as
  pub record HoldActions (f : Fragment RawName G) (table : ExtensionTable)
      (entries : List (Entry EntityUID (ActionType RawName G)))
      (above : List (Vec ℕ Global)) (kinds : List ValidatorActionKind) : Type 0 where
    pub actions : AreActions (declared_actions f) entries
    pub rows : AreAncestorRows (IsActionAncestor (tests_alone f table) (declared_actions f))
        (map (λ e. action_key (action_of_entry e)) entries) above
    pub built : AllZip (IsActionKindBuilt (tests_alone f table) (fragment_scope f table))
        (map action_of_entry entries) kinds

  -- these entity types, in the order of their names, say what those of the fragment mean
  abbrev pub AreEntitiesBuilt : Fragment RawName G → ExtensionTable → List (Name × ValidatorEntityType) → Type 0
  AreEntitiesBuilt f table built = IsStrictlySortedBy (λ a b. names_in_order a.name b.name) (keys_of built)
      × ((es : List EntityMeaning) × EntitiesMean f table es × EntitiesStandFor built es)

  -- these actions, in the order of their types and ids, say what those of the fragment mean
  abbrev pub AreActionsBuilt : Fragment RawName G → ExtensionTable → List (EntityUID × ValidatorActionId) → Type 0
  AreActionsBuilt f table built = IsStrictlySortedBy uids_in_order (keys_of built)
      × ((actions : List ActionMeaning) × ActionsMean f table actions × ActionsStandFor built actions)
