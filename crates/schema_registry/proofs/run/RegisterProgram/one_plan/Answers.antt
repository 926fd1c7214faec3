use Rattle.schema_registry.proofs.Plans.{one_registry_plan}
use Rattle.schema_registry.proofs.run.RegisterProgram.one_plan.Goals as goal

pub returns : goal.returns
returns c =
    one_registry_plan c.one_table.ensures c.one_text_meaning.ensures c.one_list_of_messages.ensures
    c.one_list_of_meanings.ensures
