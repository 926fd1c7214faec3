-- Where a walk gives nothing, no part of what is walked gives anything.
use Rattle.std.proofs.Common.{◌≡◌, List, [], Contains, Option, Some, ap, ◌∙◌, sym}
use Rattle.std.specs.Option.{option_map_or}
use Rattle.cedar_data.proofs.Lists.{empty_before, empty_behind, empty_in}
use Rattle.cedar_identifiers.specs.declared.name.Name.{Name}
use Rattle.cedar_identifiers.specs.declared.name_text.NameText as named
use Rattle.cedar_identifiers.specs.declared.raw_name.RawName.{RawName}
use Rattle.schema_json.specs.declared.action_type.ActionType.{ActionType}
use Rattle.schema_json.specs.declared.action_type.ApplySpec.{ApplySpec}
use Rattle.schema_json.specs.declared.entity_type.EntityType.{EntityType}
use Rattle.schema_json.specs.declared.entity_type.EntityTypeKind.{EntityTypeKind}
use Rattle.schema_json.specs.declared.entity_type.EntityTypeKind.TheVariants.{Standard, Enum}
use Rattle.schema_json.specs.declared.fragment.Fragment.{Fragment}
use Rattle.schema_json_walk.specs.Parts.{Part, parent, principal, resource}
use Rattle.schema_json_walk.specs.Walk.{each_value, of_common, of_entity, of_kind, of_action, of_items, of_parents}
use Rattle.schema_json_walk.specs.Walk.{of_principals, of_resources, of_context, of_apply, of_relations}
use Rattle.schema_json_walk.specs.Walk.{of_action_parts, of_entry, of_fragment}
use Rattle.schema_build_checks.specs.DeclaredAt.{ActionAt}
use Rattle.schema_build_hierarchy.specs.Declarations.{Declared, DeclaredEntity}
use Rattle.schema_build_hierarchy.specs.Parents.{written_parents}
use Rattle.laws_build.proofs.Closure.Declared.{EntityStands, ActionStands}
use Rattle.laws_build.proofs.Closure.Lists.{has_none}

module _ {U : Type 0} (visit : Part RawName → List U) where
  parents_none : (kind : EntityTypeKind RawName) → of_kind visit kind ≡ [] → (p : RawName)
      → Contains (written_parents kind) p → visit (parent p) ≡ []
  parents_none (Standard s) none p c = empty_in (λ name. visit (parent name)) s.member_of_types p c
      (empty_before (of_parents visit s.member_of_types) _ none)
  parents_none (Enum choices) none p c = has_none p c

  pub parent_none : (e : EntityType RawName) → of_entity visit e ≡ [] → (p : RawName)
      → Contains (written_parents e.kind) p → visit (parent p) ≡ []
  parent_none e none p c = parents_none e.kind (empty_behind _ (of_kind visit e.kind) none) p c

  module _ {G : named.Ghosts RawName} where
    apply_none : (a : ActionType RawName G) → of_action visit a ≡ [] → (d : ApplySpec RawName)
        → a.applies_to ≡ Some d → of_apply visit d ≡ []
    apply_none a none d e =
        let parts : of_action_parts visit a ≡ [] = empty_behind _ (of_action_parts visit a) none in
        let relations : of_relations visit a ≡ [] = empty_behind _ (of_relations visit a) parts in
        let applies : option_map_or (of_apply visit) a.applies_to [] ≡ [] =
        empty_behind _ (option_map_or (of_apply visit) a.applies_to []) relations in
        ap (λ o. option_map_or (of_apply visit) o []) (sym e) ∙ applies

    pub principal_none : (a : ActionType RawName G) → of_action visit a ≡ [] → (d : ApplySpec RawName)
        → a.applies_to ≡ Some d → (p : RawName) → Contains d.principal_types p → visit (principal p) ≡ []
    principal_none a none d e p c = empty_in (λ name. visit (principal name)) d.principal_types p c
        (empty_before (of_principals visit d.principal_types) _ (apply_none a none d e))

    pub resource_none : (a : ActionType RawName G) → of_action visit a ≡ [] → (d : ApplySpec RawName)
        → a.applies_to ≡ Some d → (p : RawName) → Contains d.resource_types p → visit (resource p) ≡ []
    resource_none a none d e p c = empty_in (λ name. visit (resource name)) d.resource_types p c
        (empty_before (of_resources visit d.resource_types) (of_context visit d.context)
        (empty_behind (of_principals visit d.principal_types) _ (apply_none a none d e)))

module _ {U : Type 0} {G : named.Ghosts RawName} (visit : Option Name → Part RawName → List U) (f : Fragment RawName G)
    (none : of_fragment visit f ≡ []) where
  pub entity_none : (d : DeclaredEntity) (s : EntityStands f d)
      → of_entity (visit s.entry.0) s.item.1 ≡ []
  entity_none d s =
      let v = visit s.entry.0 in
      let entry : of_entry visit s.entry ≡ [] = empty_in (of_entry visit) f.0 s.entry s.inside none in
      let items : of_items v s.entry.1 ≡ [] =
      empty_behind (each_value (of_common v) s.entry.1.common_types) (of_items v s.entry.1) entry in
      empty_in (λ x. of_entity v x.1) s.entry.1.entity_types s.item s.among
      (empty_before (each_value (of_entity v) s.entry.1.entity_types) (each_value (of_action v) s.entry.1.actions)
      items)

  pub action_none : (d : Declared ActionAt (ActionType RawName G)) (s : ActionStands f d)
      → of_action (visit s.entry.0) s.item.1 ≡ []
  action_none d s =
      let v = visit s.entry.0 in
      let entry : of_entry visit s.entry ≡ [] = empty_in (of_entry visit) f.0 s.entry s.inside none in
      let items : of_items v s.entry.1 ≡ [] =
      empty_behind (each_value (of_common v) s.entry.1.common_types) (of_items v s.entry.1) entry in
      empty_in (λ x. of_action v x.1) s.entry.1.actions s.item s.among
      (empty_behind (each_value (of_entity v) s.entry.1.entity_types) (each_value (of_action v) s.entry.1.actions)
      items)
