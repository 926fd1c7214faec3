use Rattle.std.proofs.lemmas.Result.{on_ok_weaker}
use Rattle.schema_print_text.specs.Growing.{then}
use Rattle.schema_print.proofs.items.push_head.Goals as goal

pub returns : goal.returns
returns c =
    on_ok_weaker c.push.result (λ e.
    then c.in_ok-push_notes.ensures
    (then c.in_ok-push_spaces.ensures (then c.in_ok-push_between.ensures e))) c.push.ensures
