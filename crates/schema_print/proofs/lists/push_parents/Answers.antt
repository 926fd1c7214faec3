use Rattle.std.proofs.Common.{sym, ◌∙◌}
use Rattle.std.proofs.lemmas.Result.{on_ok_weaker}
use Rattle.laws_written.specs.Printed.{path_pieces}
use Rattle.schema_print_text.specs.Growing.{adds_nothing, then, so}
use Rattle.schema_print_text.specs.PrintedTypes.{printed_name}
use Rattle.schema_print.proofs.Rows.{parents_none, parents_some}
use Rattle.schema_print.proofs.lists.push_parents.Goals as goal

pub returns-then-is_empty : goal.returns-then-is_empty
returns-then-is_empty g c =
    so (adds_nothing c.args.text.now)
    (parents_none path_pieces (λ n. printed_name (g.N.NameText.components n)) c.args.names.now
    (sym c.is_empty.ensures ∙ c.if-is_empty.true))

pub returns : goal.returns
returns g c =
    on_ok_weaker c.push_names.result (λ e.
    so (then c.in_ok-push.ensures e)
    (parents_some path_pieces (λ n. printed_name (g.N.NameText.components n)) c.args.names.now
    (sym c.is_empty.ensures ∙ c.if-is_empty.false))) c.push_names.ensures
