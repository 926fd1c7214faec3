use Rattle.std.proofs.Common.{◌≡◌, ◌++◌, drop, map}
use Rattle.serde_json.specs.View.{view}
use Rattle.schema_json_values.specs.FragmentValues.{action_id_value}
use Rattle.schema_json_values.proofs.actions.action_ids_value.Given as goal

abbrev pub invariant-loop-action : goal.invariant-loop-action
invariant-loop-action g l = map view l.items.items
    ++ map (action_id_value g.N.NameText.components) (drop l.action-index l.actions)
    ≡ map (action_id_value g.N.NameText.components) l.actions
