use Rattle.std.proofs.Common.{◌≡◌, ◌++◌, drop, map, string_bytes}
use Rattle.serde_json.specs.View.{items_of}
use Rattle.serde_json.specs.Written.{compact_text, items_text}
use Rattle.schema_json_values.specs.FragmentValues.{action_id_value, list_of}
use Rattle.schema_json_text.proofs.actions.push_action_ids.Given as goal

abbrev pub invariant-loop-action : goal.invariant-loop-action
invariant-loop-action g l = string_bytes l.out
    ++ items_text l.later (items_of (map (action_id_value g.N.NameText.components) (drop l.action-index l.actions)))
    ≡ string_bytes l.fn.out ++ compact_text (list_of (map (action_id_value g.N.NameText.components) l.actions))
