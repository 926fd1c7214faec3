use Rattle.std.proofs.Common.{◌++◌, map, string_bytes}
use Rattle.std.proofs.lemmas.Result.{on_ok_weaker}
use Rattle.serde_json.specs.Written.{compact_text}
use Rattle.schema_json_values.specs.FragmentValues.{action_id_value, list_of}
use Rattle.schema_json_text.proofs.Loops.{opened, item_step, items_end}
use Rattle.schema_json_text.proofs.actions.push_action_ids.Goals as goal

pub loop-action-init : goal.loop-action-init
loop-action-init g c = opened (string_bytes c.args.out.now) (string_bytes c.push_char.new.out) _ 91
    c.in_ok-push_char.ensures

pub loop-action-preserved : goal.loop-action-preserved
loop-action-preserved g c =
    let f = action_id_value g.N.NameText.components in
    item_step f c.args.actions.now c.loop-action.action-index c.action-item.result c.loop-action.later
    (string_bytes c.loop-action.out)
    (string_bytes c.args.out.now ++ compact_text (list_of (map f c.args.actions.now)))
    (string_bytes c.push_comma.new.out) (string_bytes c.push_action_id.new.out) c.loop-action-test.true
    c.action-item.is c.in_ok-push_comma.ensures c.in_ok-push_action_id.ensures c.loop-action.invariant

pub returns : goal.returns
returns g c =
    let f = action_id_value g.N.NameText.components in
    on_ok_weaker c.push_char-2.result
    (λ e. items_end f c.args.actions.now c.loop-action.action-index c.loop-action.later
    (string_bytes c.loop-action.out)
    (string_bytes c.args.out.now ++ compact_text (list_of (map f c.args.actions.now)))
    (string_bytes c.push_char-2.new.out) c.loop-action-test.false e c.loop-action.invariant)
    c.push_char-2.ensures
