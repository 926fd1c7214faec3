use Rattle.std.proofs.Common.{codes, map, true, ap, ◌∙◌}
use Rattle.std.proofs.lemmas.List.{at_drop_all}
use Rattle.cedar_data.specs.Rows.{row_behind}
use Rattle.schema_syntax_tokens.specs.Laid.{laid}
use Rattle.schema_print_text.specs.Growing.{then, so, begun, round, adds_all}
use Rattle.schema_print_text.specs.PrintedTypes.{printed_type}
use Rattle.schema_print.specs.PrintedFragments.{common_type_pieces}
use Rattle.schema_print.proofs.Rows.{row_step}
use Rattle.schema_print.proofs.Spelled.{common_laid}
use Rattle.schema_print.proofs.items.push_commons.Goals as goal

pub loop-name-init : goal.loop-name-init
loop-name-init g c = begun c.args.text.now _

pub loop-name-preserved : goal.loop-name-preserved
loop-name-preserved g c =
    let names = g.N.NameText.components in
    let it = c.loop-name-item.result in
    let item = so (then c.in_ok-push_head.ensures
    (then (so c.in_ok-push.ensures (c.as_str.ensures ∙ ap (λ u. u.id.text) c.as_unreserved.ensures))
    (then c.in_ok-push-2.ensures (then c.in_ok-push_type.ensures c.in_ok-push-3.ensures))))
    (common_laid c.args.base it.1.annotations.0 it.0.id.id.text (printed_type names it.1.ty)) in
    round (then c.in_ok-push_between.ensures item) c.loop-name.invariant
    (row_step (λ x. laid (common_type_pieces names true c.args.base x)) (codes "\n") c.loop-name.behind
    c.args.commons.now c.loop-name.name-index it c.loop-name-test.true c.loop-name-item.is)

pub returns : goal.returns
returns g c =
    adds_all c.loop-name.invariant
    (at_drop_all (λ xs. row_behind (codes "\n") c.loop-name.behind
    (map (λ x. laid (common_type_pieces g.N.NameText.components true c.args.base x)) xs)) c.args.commons.now
    c.loop-name.name-index c.loop-name-test.false)
