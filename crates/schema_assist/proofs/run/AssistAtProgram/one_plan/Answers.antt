use Rattle.schema_assist.proofs.Plans.{one_assist_plan}
use Rattle.schema_assist.proofs.run.AssistAtProgram.one_plan.Goals as goal

pub returns : goal.returns
returns c =
    one_assist_plan c.one_table.ensures c.one_translation.ensures c.refused_or_translated.ensures
    c.one_assistance.ensures c.assisted_or_refused.ensures c.one_refusal.ensures
