use Rattle.std.proofs.Common.{ap, sym}
use Rattle.std.proofs.lemmas.Result.{on_ok_weaker}
use Rattle.schema_inclusion_values.specs.Seen.{schema_value}
use Rattle.schema_inclusion_shown.specs.ValueTexts.{schema_value_text}
use Rattle.schema_inclusion_shown.proofs.Growing.{then, so}
use Rattle.schema_inclusion_shown.proofs.schema_values.push_schema_value.Goals as goal

pub returns-in_ok-push_name-in-Request-2 : goal.returns-in_ok-push_name-in-Request-2
returns-in_ok-push_name-in-Request-2 c = on_ok_weaker c.push_record-in-Request.result
    (λ e. so
    (then c.in_ok-push-in-Request.ensures
    (then c.in_ok-push_entity-in-Request.ensures
    (then c.in_ok-push-in-Request-2.ensures
    (then c.in_ok-push_name-in-Request.ensures
    (then c.in_ok-push-in-Request-3.ensures
    (then c.in_ok-push_name-in-Request-2.ensures e))))))
    (sym (ap (λ v. schema_value_text (schema_value v)) c.in-Request.is))) c.push_record-in-Request.ensures
