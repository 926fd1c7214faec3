use Rattle.cedar_schema_theorems.proofs.runs.a_valid_text_is_planned.Goals as goal

pub returns : goal.returns
returns c = c.valid_texts_are_planned.ensures.planned
