use Rattle.std.proofs.lemmas.Result.{on_ok_weaker}
use Rattle.schema_print_text.specs.Growing.{then}
use Rattle.schema_print.proofs.bodies.push_names_line.Goals as goal

pub returns : goal.returns
returns g c =
    on_ok_weaker c.push-2.result (λ e.
    then c.in_ok-push_spaces.ensures
    (then c.in_ok-push.ensures (then c.in_ok-push_names.ensures e))) c.push-2.ensures
