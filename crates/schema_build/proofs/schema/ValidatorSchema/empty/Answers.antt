use Rattle.std.proofs.Common.{List, sym, subst}
use Rattle.std.specs.List.Sorted.{IsStrictlySortedBy}
use Rattle.std.specs.Map.{keys_of}
use Rattle.cedar_data.proofs.Orders.{nothing_rises}
use Rattle.cedar_identifiers.specs.declared.name.Name.{Name}
use Rattle.cedar_names.specs.Orders.{names_in_order, uids_in_order}
use Rattle.cedar_names.specs.declared.entity_uid.EntityUID.{EntityUID}
use Rattle.schema_build_types.specs.declared.action.ValidatorActionId.{ValidatorActionId}
use Rattle.schema_build_types.specs.declared.entity_type.ValidatorEntityType.{ValidatorEntityType}
use Rattle.schema_build.proofs.schema.ValidatorSchema.empty.Goals as goal

pub invariant_of-result : goal.invariant_of-result
invariant_of-result c =
    let by_name = λ (a b : Name). names_in_order a.name b.name in (
      subst (λ (l : List (Name × ValidatorEntityType)). IsStrictlySortedBy by_name (keys_of l))
          (sym c.new.ensures.items) (nothing_rises by_name),
      subst (λ (l : List (EntityUID × ValidatorActionId)). IsStrictlySortedBy uids_in_order (keys_of l))
          (sym c.new-2.ensures.items) (nothing_rises uids_in_order),
    )
