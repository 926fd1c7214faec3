-- The orders of names and of actions, by their components.
use Rattle.std.proofs.Common.{◌≡◌, ℕ, List, map, ap, subst}
use Rattle.std.specs.Cmp.{IsTotalOrder, on_total, then_total}
use Rattle.std.specs.List.Sorted.{IsStrictlySortedBy}
use Rattle.std.specs.Ordering.{ordering_then}
use Rattle.cedar_data.specs.Text.{text_cmp}
use Rattle.cedar_data.proofs.Orders.{text_total, texts_total}
use Rattle.cedar_identifiers.specs.declared.name_text.NameText as named
use Rattle.cedar_identifiers.specs.declared.raw_name.RawName.{RawName}
use Rattle.cedar_names.specs.Orders.{ids_of, names_in_order, names_total, keys_total}
use Rattle.schema_json.specs.declared.action_type.ActionType.{ActionType}
use Rattle.schema_build_types.specs.Content.{actions_cmp}
use Rattle.schema_build_checks.specs.DeclaredAt.{ActionAt, actions_at_in_order}
use Rattle.schema_build_checks.proofs.Names.{names_by_components}
use Rattle.schema_build_hierarchy.specs.Declarations.{Declared, DeclaredEntity, entity_name, action_key, named_action}
use Rattle.schema_build_hierarchy.proofs.Ordered.{sorted_seen}
use Rattle.schema_build_items.specs.ActionKinds.{components_cmp}

pub components_total : IsTotalOrder components_cmp
components_total = texts_total

pub actions_total : IsTotalOrder actions_cmp
actions_total = then_total (on_total (λ (a : List (List ℕ) × List ℕ). a.0) components_total)
    (on_total (λ (a : List (List ℕ) × List ℕ). a.1) text_total)

-- actions are in the order of their types' components, and then of their ids
actions_by_components : (a b : ActionAt) → actions_at_in_order a b ≡ actions_cmp (named_action a) (named_action b)
actions_by_components a b = ap (λ o. ordering_then o (text_cmp a.id b.id)) (names_by_components a.ty b.ty)

-- declared entity types that rise have names that rise
pub entity_names_rise : (ds : List DeclaredEntity) → IsStrictlySortedBy (λ a b. names_in_order a.name b.name) ds
    → IsStrictlySortedBy components_cmp (map entity_name ds)
entity_names_rise ds up = sorted_seen entity_name components_cmp ds
    (subst (λ o. IsStrictlySortedBy o ds) (λ i a b. names_by_components a.name b.name i) up)

module _ {G : named.Ghosts RawName} where
  -- declared actions that rise have types and ids that rise
  pub action_keys_rise : (ds : List (Declared ActionAt (ActionType RawName G)))
      → IsStrictlySortedBy (λ a b. actions_at_in_order a.name b.name) ds
      → IsStrictlySortedBy actions_cmp (map action_key ds)
  action_keys_rise ds up = sorted_seen action_key actions_cmp ds
      (subst (λ o. IsStrictlySortedBy o ds) (λ i a b. actions_by_components a.name b.name i) up)

pub declared_entities_total : IsTotalOrder (λ (a b : DeclaredEntity). names_in_order a.name b.name)
declared_entities_total = on_total (λ (d : DeclaredEntity). d.name) names_total

pub declared_actions_total : (G : named.Ghosts RawName)
    → IsTotalOrder (λ (a b : Declared ActionAt (ActionType RawName G)). actions_at_in_order a.name b.name)
declared_actions_total G = on_total
    (λ (d : Declared ActionAt (ActionType RawName G)). (ids_of d.name.ty, d.name.id)) keys_total
