-- What a fragment means: the entity types and the actions that it declares, in the order of their names, and what each
-- of them means.
use Rattle.std.specs.Prelude.{◌≡◌, ℕ, List}
use Rattle.std.specs.List.{AllZip}
use Rattle.std.specs.List.Sorted.{IsStrictlySortedBy}
use Rattle.cedar_identifiers.specs.declared.name_text.NameText as named
use Rattle.cedar_identifiers.specs.declared.raw_name.RawName.{RawName}
use Rattle.cedar_names.specs.Meaning.{EntityMeaning, ActionMeaning, SchemaMeaning}
use Rattle.cedar_names.specs.Orders.{names_in_order}
use Rattle.cedar_names.specs.declared.extension_table.ExtensionTable.{ExtensionTable}
use Rattle.schema_json.specs.declared.action_type.ActionType.{ActionType}
use Rattle.schema_json.specs.declared.fragment.Fragment.{Fragment}
use Rattle.schema_resolve_definitions.specs.Declarations.{name_of}
use Rattle.schema_build_types.specs.Content.{actions_cmp}
use Rattle.schema_build_checks.specs.DeclaredAt.{ActionAt, actions_at_in_order}
use Rattle.schema_build_expand.specs.Scope.{AreDeclaredOnce}
use Rattle.schema_build_scope.specs.FragmentScope.{fragment_scope}
use Rattle.schema_build_hierarchy.specs.Declarations.{Declared, DeclaredEntity, entity_name, action_key}
use Rattle.schema_build_hierarchy.specs.Declarations.{declared_entities, declared_actions}
use Rattle.schema_build_hierarchy.specs.Entries.{SameMembers}
use Rattle.schema_build_hierarchy.specs.Parents.{IsAncestor, IsActionAncestor}
use Rattle.schema_build_items.specs.ActionKinds.{components_cmp, AreJust, ApplyMeaning, IsApplyMeaning, tests_alone}
use Rattle.schema_build_items.specs.Kinds.{KindMeaning, IsKindMeaning}

-- the attributes, the tags and the choices of an entity type
abbrev pub kind_meaning : EntityMeaning → KindMeaning
kind_meaning e = record { attributes = e.attributes; tags = e.tags; choices = e.choices }

-- the principals, the resources and the context of an action
abbrev pub apply_meaning : ActionMeaning → ApplyMeaning
apply_meaning a = record { principals = a.principals; resources = a.resources; context = a.context }

-- the type and the id of an action
abbrev pub key_of : ActionMeaning → List (List ℕ) × List ℕ
key_of a = (a.ty, a.id)

module _ {G : named.Ghosts RawName} (f : Fragment RawName G) (table : ExtensionTable) where
  -- what a declared entity type means: all that is above it, and what is declared of it
  pub record IsEntityMeaning (d : DeclaredEntity) (e : EntityMeaning) : Type 0 where
    pub name : e.name ≡ entity_name d
    pub is_external : e.is_external ≡ d.ty.external
    pub ancestors : AreJust components_cmp (IsAncestor (tests_alone f table) (declared_entities f) (entity_name d))
        e.ancestors
    pub kind : IsKindMeaning (fragment_scope f table) (name_of d.ns) d.ty.kind (kind_meaning e)

  -- what a declared action means: all that is above it, and what it applies to
  pub record IsActionMeaning (d : Declared ActionAt (ActionType RawName G)) (a : ActionMeaning) : Type 0 where
    pub key : key_of a ≡ action_key d
    pub is_external : a.is_external ≡ d.ty.external
    pub ancestors : AreJust actions_cmp (IsActionAncestor (tests_alone f table) (declared_actions f) (action_key d))
        a.ancestors
    pub applies : IsApplyMeaning (tests_alone f table) (fragment_scope f table) d.ns d.ty.applies_to (apply_meaning a)

  -- the declared entity types in the order of their names, and what each means
  pub record EntitiesMean (entities : List EntityMeaning) : Type 0 where
    pub declared : List DeclaredEntity
    pub same : SameMembers (declared_entities f) declared
    pub rising : IsStrictlySortedBy (λ a b. names_in_order a.name b.name) declared
    pub each : AllZip IsEntityMeaning declared entities

  -- the declared actions by type and id, and what each means
  pub record ActionsMean (actions : List ActionMeaning) : Type 0 where
    pub declared : List (Declared ActionAt (ActionType RawName G))
    pub same : SameMembers (declared_actions f) declared
    pub rising : IsStrictlySortedBy (λ a b. actions_at_in_order a.name b.name) declared
    pub each : AllZip IsActionMeaning declared actions

  -- what the fragment means; of its common types no two have one name
  pub record FragmentMeaning (m : SchemaMeaning) : Type 0 where
    pub once : AreDeclaredOnce (fragment_scope f table)
    pub entities : EntitiesMean m.entities
    pub actions : ActionsMean m.actions
