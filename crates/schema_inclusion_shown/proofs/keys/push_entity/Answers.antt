use Rattle.std.proofs.lemmas.Result.{on_ok_weaker}
use Rattle.schema_inclusion_shown.proofs.Growing.{then}
use Rattle.schema_inclusion_shown.proofs.keys.push_entity.Goals as goal

pub returns : goal.returns
returns c = on_ok_weaker c.push_string.result
    (λ e. then c.in_ok-push_name.ensures (then c.in_ok-push.ensures e)) c.push_string.ensures
