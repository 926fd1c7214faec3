use Rattle.schema_inclusion.proofs.Plans.{one_inclusion_plan}
use Rattle.schema_inclusion.proofs.run.IncludeProgram.one_plan.Goals as goal

pub returns : goal.returns
returns c =
    one_inclusion_plan c.one_table.ensures c.one_list_of_messages.ensures c.one_meaning_of_a_text.ensures
    c.one_refusal_of_a_text.ensures c.refused_texts_mean_nothing.ensures
