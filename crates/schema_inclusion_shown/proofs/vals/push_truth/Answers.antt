use Rattle.std.proofs.Common.{ap, sym}
use Rattle.std.proofs.lemmas.Result.{on_ok_weaker}
use Rattle.schema_inclusion_values.specs.Values.{Truth}
use Rattle.schema_inclusion_shown.specs.ValueTexts.{value_text}
use Rattle.schema_inclusion_shown.proofs.Growing.{so}
use Rattle.schema_inclusion_shown.proofs.vals.push_truth.Goals as goal

pub returns-then-truth : goal.returns-then-truth
returns-then-truth c = on_ok_weaker c.push.result
    (λ e. so e (ap (λ b. value_text (Truth b)) (sym c.if-truth.true))) c.push.ensures

pub returns-else-truth : goal.returns-else-truth
returns-else-truth c = on_ok_weaker c.push-else-truth.result
    (λ e. so e (ap (λ b. value_text (Truth b)) (sym c.if-truth.false))) c.push-else-truth.ensures
