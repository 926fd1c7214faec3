use Rattle.std.proofs.lemmas.Result.{on_ok_weaker}
use Rattle.schema_print_text.specs.Growing.{then, so}
use Rattle.schema_print.specs.PrintedFragments.{parent_type}
use Rattle.schema_print.proofs.Rows.{ref_laid}
use Rattle.schema_print.proofs.lists.push_action.Goals as goal

pub returns : goal.returns
returns g c =
    on_ok_weaker c.push_string.result (λ e.
    so (then c.in_ok-push_action_type.ensures (then c.in_ok-push.ensures e))
    (ref_laid (parent_type g.N.NameText.components c.args.action.now.ty) c.args.action.now.id)) c.push_string.ensures
