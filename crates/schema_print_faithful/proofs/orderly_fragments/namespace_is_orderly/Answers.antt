use Rattle.std.proofs.Common.{refl, subst}
use Rattle.std.specs.List.{AllByRecursion}
use Rattle.cedar_data.specs.Text.{text_cmp}
use Rattle.cedar_identifiers.specs.declared.unreserved_id.UnreservedId.{UnreservedId}
use Rattle.schema_json.specs.declared.common_type.CommonTypeId.{CommonTypeId}
use Rattle.schema_print_faithful.proofs.OrderlyItems.{IsOrderlyCommon, IsOrderlyEntity, IsOrderlyAction}
use Rattle.schema_print_faithful.proofs.Rising.{rise_as}
use Rattle.schema_print_faithful.proofs.orderly_fragments.namespace_is_orderly.Goals as goal

pub returns : goal.returns
returns c =
    let n = c.args.namespace.now in
    record {
      notes = c.annotations_rise.ensures;
      commons_rise = rise_as (λ (a b : CommonTypeId). text_cmp a.id.id.text b.id.id.text) text_cmp
          (λ (a : CommonTypeId). a.id.id.text) (λ a b. refl) n.common_types c.as_slice.ensures.sorted;
      entities_rise = rise_as (λ (a b : UnreservedId). text_cmp a.id.text b.id.text) text_cmp
          (λ (a : UnreservedId). a.id.text) (λ a b. refl) n.entity_types c.as_slice-2.ensures.sorted;
      actions_rise = rise_as text_cmp text_cmp (λ a. a) (λ a b. refl) n.actions c.as_slice-3.ensures.sorted;
      commons = subst (AllByRecursion IsOrderlyCommon) c.as_slice.ensures.entries c.commons_are_orderly.ensures;
      entities = subst (AllByRecursion IsOrderlyEntity) c.as_slice-2.ensures.entries c.entities_are_orderly.ensures;
      actions = subst (AllByRecursion IsOrderlyAction) c.as_slice-3.ensures.entries c.actions_are_orderly.ensures;
    }
