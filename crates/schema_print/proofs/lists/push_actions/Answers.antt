use Rattle.std.proofs.Common.{codes, map, sym, ◌∙◌, ap, ◌++◌}
use Rattle.std.proofs.lemmas.List.{at_drop_all}
use Rattle.std.proofs.lemmas.Result.{on_ok_weaker}
use Rattle.cedar_data.specs.Rows.{row_behind}
use Rattle.schema_syntax_tokens.specs.Laid.{laid}
use Rattle.laws_written.specs.PrintedDecls.{ref_pieces}
use Rattle.schema_print_text.specs.Growing.{adds_nothing, then, so, begun, round, adds_all}
use Rattle.schema_print.specs.PrintedFragments.{printed_parent}
use Rattle.schema_print.proofs.Rows.{row_step, brackets_made, parents_none, parents_some}
use Rattle.schema_print.proofs.lists.push_actions.Goals as goal

pub returns-then-is_empty : goal.returns-then-is_empty
returns-then-is_empty g c =
    so (adds_nothing c.args.text.now)
    (parents_none ref_pieces (printed_parent g.N.NameText.components) c.args.actions.now
    (sym c.is_empty.ensures ∙ c.if-is_empty.true))

pub loop-action-init : goal.loop-action-init
loop-action-init g c = begun c.push.new.text _

pub loop-action-preserved : goal.loop-action-preserved
loop-action-preserved g c =
    round (then c.in_ok-push_between.ensures c.in_ok-push_action.ensures) c.loop-action.invariant
    (row_step (λ a. laid (ref_pieces (printed_parent g.N.NameText.components a))) (codes ", ") c.loop-action.behind
    c.args.actions.now c.loop-action.action-index c.action-item.result c.loop-action-test.true c.action-item.is)

pub returns : goal.returns
returns g c =
    on_ok_weaker c.push-2.result (λ e.
    let one = printed_parent g.N.NameText.components in
    let row = adds_all c.loop-action.invariant
    (at_drop_all (λ xs. row_behind (codes ", ") c.loop-action.behind (map (λ a. laid (ref_pieces (one a))) xs))
    c.args.actions.now c.loop-action.action-index c.loop-action-test.false) in
    so (then c.in_ok-push.ensures (then row e))
    (ap (λ t. codes " in " ++ t) (brackets_made ref_pieces one c.args.actions.now)
    ∙ parents_some ref_pieces one c.args.actions.now (sym c.is_empty.ensures ∙ c.if-is_empty.false))) c.push-2.ensures
