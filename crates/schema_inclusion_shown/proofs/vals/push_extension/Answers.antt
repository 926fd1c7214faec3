use Rattle.std.proofs.lemmas.Result.{on_ok_weaker}
use Rattle.schema_inclusion_shown.proofs.Growing.{then}
use Rattle.schema_inclusion_shown.proofs.vals.push_extension.Goals as goal

pub returns : goal.returns
returns c = on_ok_weaker c.push.result (λ e. then c.in_ok-push_text.ensures e) c.push.ensures
