use Rattle.std.proofs.Common.{sym, subst, List, [], ◌∷◌, Option}
use Rattle.std.specs.Prelude.{codes}
use Rattle.serde_json.specs.Find.{get_member}
use Rattle.serde_json.specs.View.{members_view}
use Rattle.serde_json.specs.Data.{Members, Data}
use Rattle.std.proofs.Common.{inl, inr, refl}
use Rattle.cedar_data.specs.Text.{text_cmp}
use Rattle.schema_json.specs.Orders.{unreserved_cmp}
use Rattle.schema_json_shapes.specs.Walk.{AllMet, fits_table, Demand}
use Rattle.schema_json_shapes.specs.Reads.{IsDemandFault}
use Rattle.schema_json_shapes.specs.Entries.{of_object, each_entry}
use Rattle.schema_json_shapes.proofs.Demands.{row_refused, rows_met}
use Rattle.schema_json_shapes.specs.Said.{IsMapOrNone, IsId, IsText}
use Rattle.schema_json_shapes.proofs.Tabled.{none_missing, needed_there}
use Rattle.schema_compat_shapes.specs.OldWalk.{at_field, old_action_demands}
use Rattle.schema_compat_shapes.specs.OldWalk.{old_common_type_demands, old_entity_type_demands, old_namespace_fields}
use Rattle.schema_compat_shapes.specs.OldParts.{IsOldEntityType, IsOldAction, IsOldNamespaceIn}
use Rattle.schema_compat_shapes.proofs.namespaces.read_members.Goals as goal

abbrev actions_field : Option Data → List Demand
actions_field o = at_field (of_object (each_entry old_action_demands)) (codes "actions") o

abbrev types_field : Option Data → List Demand
types_field o = at_field (of_object (each_entry old_entity_type_demands)) (codes "entityTypes") o

abbrev field_rows : Members → List (List Demand)
field_rows ms =
    actions_field (get_member (codes "actions") ms)
    ∷ at_field (of_object (each_entry old_common_type_demands)) (codes "commonTypes")
    (get_member (codes "commonTypes") ms)
    ∷ types_field (get_member (codes "entityTypes") ms) ∷ []

pub needed-declared_actions-requires : goal.needed-declared_actions-requires
needed-declared_actions-requires c =
    let ms = members_view c.args.members.now.entries in
    let own = subst (λ fs. AllMet (fits_table fs ms)) c.namespace_fields.ensures c.in_ok-check_fields.ensures.0 in
    needed_there (codes "actions") old_namespace_fields ms (inr (inr (inl refl)))
    (none_missing old_namespace_fields ms own)

pub needed-declared_types-requires : goal.needed-declared_types-requires
needed-declared_types-requires c =
    let ms = members_view c.args.members.now.entries in
    let own = subst (λ fs. AllMet (fits_table fs ms)) c.namespace_fields.ensures c.in_ok-check_fields.ensures.0 in
    needed_there (codes "entityTypes") old_namespace_fields ms (inr (inl refl))
    (none_missing old_namespace_fields ms own)

pub returns-in_err-check_fields : goal.returns-in_err-check_fields
returns-in_err-check_fields c =
    let ms = members_view c.args.members.now.entries in
    row_refused (IsOldNamespaceIn ms) (fits_table old_namespace_fields ms) (field_rows ms) 0 c.from_residual.result
    c.in_err-check_fields.field-0.0 c.from_residual.ensures.1
    (subst (λ fs. IsDemandFault (fits_table fs ms) c.in_err-check_fields.field-0.0) c.namespace_fields.ensures
    c.in_err-check_fields.ensures)

pub returns-in_err-actions : goal.returns-in_err-actions
returns-in_err-actions c =
    let ms = members_view c.args.members.now.entries in
    let own = subst (λ fs. AllMet (fits_table fs ms)) c.namespace_fields.ensures c.in_ok-check_fields.ensures.0 in
    row_refused (IsOldNamespaceIn ms) (fits_table old_namespace_fields ms) (field_rows ms) 1
    c.from_residual-in_err-actions.result c.in_err-actions.field-0.0 c.from_residual-in_err-actions.ensures.1 own
    (subst (λ o. IsDemandFault (actions_field o) c.in_err-actions.field-0.0)
    (sym c.needed-declared_actions.ensures) c.in_err-actions.ensures)

pub returns-in_err-common_types : goal.returns-in_err-common_types
returns-in_err-common_types c =
    let ms = members_view c.args.members.now.entries in
    let own = subst (λ fs. AllMet (fits_table fs ms)) c.namespace_fields.ensures c.in_ok-check_fields.ensures.0 in
    row_refused (IsOldNamespaceIn ms) (fits_table old_namespace_fields ms) (field_rows ms) 2
    c.from_residual-in_err-common_types.result c.in_err-common_types.field-0.0
    c.from_residual-in_err-common_types.ensures.1 own
    (subst (λ o. AllMet (actions_field o))
    (sym c.needed-declared_actions.ensures) c.in_ok-actions.ensures.0) c.in_err-common_types.ensures

pub returns-in_err-entity_types : goal.returns-in_err-entity_types
returns-in_err-entity_types c =
    let ms = members_view c.args.members.now.entries in
    let own = subst (λ fs. AllMet (fits_table fs ms)) c.namespace_fields.ensures c.in_ok-check_fields.ensures.0 in
    row_refused (IsOldNamespaceIn ms) (fits_table old_namespace_fields ms) (field_rows ms) 3
    c.from_residual-in_err-entity_types.result c.in_err-entity_types.field-0.0
    c.from_residual-in_err-entity_types.ensures.1 own
    (subst (λ o. AllMet (actions_field o))
    (sym c.needed-declared_actions.ensures) c.in_ok-actions.ensures.0) c.in_ok-common_types.ensures.0
    (subst (λ o. IsDemandFault (types_field o) c.in_err-entity_types.field-0.0)
    (sym c.needed-declared_types.ensures) c.in_err-entity_types.ensures)

pub returns : goal.returns
returns c =
    let ms = members_view c.args.members.now.entries in
    let own = subst (λ fs. AllMet (fits_table fs ms)) c.namespace_fields.ensures c.in_ok-check_fields.ensures.0 in (
      rows_met (fits_table old_namespace_fields ms) (field_rows ms) _ (λ h. h) own
          (subst (λ o. AllMet (actions_field o))
          (sym c.needed-declared_actions.ensures) c.in_ok-actions.ensures.0) c.in_ok-common_types.ensures.0
          (subst (λ o. AllMet (types_field o))
          (sym c.needed-declared_types.ensures) c.in_ok-entity_types.ensures.0),
      record {
        commons = c.in_ok-common_types.ensures.1;
        entities = subst (λ o. IsMapOrNone unreserved_cmp IsId IsOldEntityType o c.in_ok-entity_types.entity_types)
            (sym c.needed-declared_types.ensures) c.in_ok-entity_types.ensures.1;
        actions = subst (λ o. IsMapOrNone text_cmp IsText IsOldAction o c.in_ok-actions.actions)
            (sym c.needed-declared_actions.ensures) c.in_ok-actions.ensures.1;
      },
    )
