use Rattle.cedar_schema_core.proofs.OneOutput.{writes_once, refuses_once, refuses_or_writes}
use Rattle.cedar_schema_core.proofs.OnePlan.{one_plan_from}
use Rattle.cedar_schema_core.proofs.laws.one_plan.Goals as goal

pub returns : goal.returns
returns c =
    let one = c.one_text_meaning.ensures in
    let translation = c.one_translation.ensures in
    let apart = c.refused_or_translated.ensures in
    let invalid = c.refused_or_valid.ensures in
    let refusal = c.one_refusal.ensures in
    let json = c.one_json_reading.ensures in
    one_plan_from (writes_once one translation apart invalid refusal json.meaning json.refusal json.invalid)
    (refuses_once one translation apart invalid refusal json.meaning json.refusal json.invalid)
    (refuses_or_writes one translation apart invalid refusal json.meaning json.refusal json.invalid)
