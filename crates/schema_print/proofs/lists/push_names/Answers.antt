use Rattle.std.proofs.Common.{codes, map}
use Rattle.std.proofs.lemmas.List.{at_drop_all}
use Rattle.std.proofs.lemmas.Result.{on_ok_weaker}
use Rattle.cedar_data.specs.Rows.{row_behind}
use Rattle.schema_syntax_tokens.specs.Laid.{laid}
use Rattle.laws_written.specs.Printed.{path_pieces}
use Rattle.schema_print_text.specs.Growing.{then, so, begun, round, adds_all}
use Rattle.schema_print_text.specs.PrintedTypes.{printed_name}
use Rattle.schema_print.proofs.Rows.{row_step, brackets_made}
use Rattle.schema_print.proofs.lists.push_names.Goals as goal

pub loop-name-init : goal.loop-name-init
loop-name-init g c = begun c.push.new.text _

pub loop-name-preserved : goal.loop-name-preserved
loop-name-preserved g c =
    round (then c.in_ok-push_between.ensures c.in_ok-push_name.ensures) c.loop-name.invariant
    (row_step (λ n. laid (path_pieces (printed_name (g.N.NameText.components n)))) (codes ", ") c.loop-name.behind
    c.args.names.now c.loop-name.name-index c.name-item.result c.loop-name-test.true c.name-item.is)

pub returns : goal.returns
returns g c =
    on_ok_weaker c.push-2.result (λ e.
    let row = adds_all c.loop-name.invariant
    (at_drop_all (λ ns. row_behind (codes ", ") c.loop-name.behind
    (map (λ n. laid (path_pieces (printed_name (g.N.NameText.components n)))) ns)) c.args.names.now
    c.loop-name.name-index c.loop-name-test.false) in
    so (then c.in_ok-push.ensures (then row e))
    (brackets_made path_pieces (λ n. printed_name (g.N.NameText.components n)) c.args.names.now)) c.push-2.ensures
