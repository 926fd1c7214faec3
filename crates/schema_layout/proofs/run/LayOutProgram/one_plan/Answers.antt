use Rattle.schema_layout.proofs.Plans.{one_layout_plan}
use Rattle.schema_layout.proofs.run.LayOutProgram.one_plan.Goals as goal

pub returns : goal.returns
returns c = one_layout_plan c.pieces_of_texts.ensures.one c.one_error.ensures c.tree_or_error.ensures
