use Rattle.std.proofs.Common.{codes, map, true}
use Rattle.std.proofs.lemmas.List.{at_drop_all}
use Rattle.cedar_data.specs.Rows.{row_behind}
use Rattle.schema_syntax_tokens.specs.Laid.{laid}
use Rattle.schema_print_text.specs.Growing.{then, so, begun, round, adds_all}
use Rattle.schema_print.specs.PrintedFragments.{action_pieces, action_body_pieces}
use Rattle.schema_print.proofs.Rows.{row_step}
use Rattle.schema_print.proofs.Spelled.{action_laid}
use Rattle.schema_print.proofs.items.push_actions.Goals as goal

pub loop-id-init : goal.loop-id-init
loop-id-init g c = begun c.args.text.now _

pub loop-id-preserved : goal.loop-id-preserved
loop-id-preserved g c =
    let names = g.N.NameText.components in
    let it = c.loop-id-item.result in
    let item = so (then c.in_ok-push_head.ensures
    (then c.in_ok-push_string.ensures (then c.in_ok-push_action_body.ensures c.in_ok-push.ensures)))
    (action_laid c.args.base it.1.annotations.0 it.1.external it.0 (action_body_pieces names true c.args.base it.1)) in
    round (then c.in_ok-push_between.ensures item) c.loop-id.invariant
    (row_step (λ x. laid (action_pieces names true c.args.base x)) (codes "\n") c.loop-id.behind c.args.actions.now
    c.loop-id.id-index it c.loop-id-test.true c.loop-id-item.is)

pub returns : goal.returns
returns g c =
    adds_all c.loop-id.invariant (at_drop_all
    (λ xs. row_behind (codes "\n") c.loop-id.behind
    (map (λ x. laid (action_pieces g.N.NameText.components true c.args.base x)) xs)) c.args.actions.now
    c.loop-id.id-index c.loop-id-test.false)
