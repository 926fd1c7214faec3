use Rattle.cedar_schema_core.proofs.Constructed.{valid_planned, warned}
use Rattle.cedar_schema_core.proofs.laws.valid_texts_are_planned.Goals as goal

pub returns : goal.returns
returns c = record { planned = valid_planned; warned = warned }
