use Rattle.std.proofs.Common.{◌++◌, string_bytes}
use Rattle.std.proofs.lemmas.Result.{on_ok_weaker}
use Rattle.serde_json.specs.Written.{compact_text}
use Rattle.schema_json_values.specs.FragmentValues.{name_value, names_value}
use Rattle.schema_json_text.proofs.Loops.{opened, item_step, items_end}
use Rattle.schema_json_text.proofs.leaves.push_names.Goals as goal

pub loop-name-init : goal.loop-name-init
loop-name-init g c = opened (string_bytes c.args.out.now) (string_bytes c.push_char.new.out) _ 91
    c.in_ok-push_char.ensures

pub loop-name-preserved : goal.loop-name-preserved
loop-name-preserved g c =
    let names = g.N.NameText.components in
    item_step (name_value names) c.args.names.now c.loop-name.name-index c.name-item.result c.loop-name.later
    (string_bytes c.loop-name.out) (string_bytes c.args.out.now ++ compact_text (names_value names c.args.names.now))
    (string_bytes c.push_comma.new.out) (string_bytes c.push_name.new.out) c.loop-name-test.true c.name-item.is
    c.in_ok-push_comma.ensures c.in_ok-push_name.ensures c.loop-name.invariant

pub returns : goal.returns
returns g c =
    let names = g.N.NameText.components in
    on_ok_weaker c.push_char-2.result
    (λ e. items_end (name_value names) c.args.names.now c.loop-name.name-index c.loop-name.later
    (string_bytes c.loop-name.out) (string_bytes c.args.out.now ++ compact_text (names_value names c.args.names.now))
    (string_bytes c.push_char-2.new.out) c.loop-name-test.false e c.loop-name.invariant)
    c.push_char-2.ensures
