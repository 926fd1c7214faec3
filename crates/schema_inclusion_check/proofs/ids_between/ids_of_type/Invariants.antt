use Rattle.std.proofs.Common.{◌≡◌, ◌≤◌, ◌-◌, ◌++◌, drop, map, length}
use Rattle.cedar_identifiers.specs.Names.{components_of}
use Rattle.schema_inclusion_values.specs.Ids.{action_ids}
use Rattle.schema_inclusion_check.specs.Raw.{raw_action}
use Rattle.schema_inclusion_check.specs.Told.{texts_now}
use Rattle.schema_inclusion_check.proofs.ids_between.ids_of_type.Given as goal

abbrev pub invariant-loop-at : goal.invariant-loop-at
invariant-loop-at l = record {
  within : l.at ≤ length l.actions;
  found : texts_now l.ids.items ++ action_ids (components_of l.ty.name) (map raw_action (drop l.at l.actions))
      ≡ action_ids (components_of l.ty.name) (map raw_action l.actions);
}

abbrev pub decreases-loop-at : goal.decreases-loop-at
decreases-loop-at l = length l.actions - l.at
