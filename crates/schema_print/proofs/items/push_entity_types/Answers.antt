use Rattle.std.proofs.Common.{codes, map, true}
use Rattle.std.proofs.lemmas.List.{at_drop_all}
use Rattle.cedar_data.specs.Rows.{row_behind}
use Rattle.schema_syntax_tokens.specs.Laid.{laid}
use Rattle.schema_print_text.specs.Growing.{then, so, begun, round, adds_all}
use Rattle.schema_print.specs.PrintedFragments.{entity_pieces, entity_body_pieces}
use Rattle.schema_print.proofs.Rows.{row_step}
use Rattle.schema_print.proofs.Spelled.{entity_laid}
use Rattle.schema_print.proofs.items.push_entity_types.Goals as goal

pub loop-name-init : goal.loop-name-init
loop-name-init g c = begun c.args.text.now _

pub loop-name-preserved : goal.loop-name-preserved
loop-name-preserved g c =
    let names = g.N.NameText.components in
    let it = c.loop-name-item.result in
    let item = so (then c.in_ok-push_head.ensures
    (then (so c.in_ok-push.ensures c.as_str.ensures) (then c.in_ok-push_entity_body.ensures c.in_ok-push-2.ensures)))
    (entity_laid c.args.base it.1.annotations.0 it.1.external it.0.id.text
    (entity_body_pieces names true c.args.base it.1)) in
    round (then c.in_ok-push_between.ensures item) c.loop-name.invariant
    (row_step (λ x. laid (entity_pieces names true c.args.base x)) (codes "\n") c.loop-name.behind
    c.args.entity_types.now c.loop-name.name-index it c.loop-name-test.true c.loop-name-item.is)

pub returns : goal.returns
returns g c =
    adds_all c.loop-name.invariant
    (at_drop_all (λ xs. row_behind (codes "\n") c.loop-name.behind
    (map (λ x. laid (entity_pieces g.N.NameText.components true c.args.base x)) xs)) c.args.entity_types.now
    c.loop-name.name-index c.loop-name-test.false)
