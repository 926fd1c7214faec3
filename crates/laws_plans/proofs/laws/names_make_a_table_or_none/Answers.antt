use Rattle.laws_plans.proofs.Tables.{table_or_none}
use Rattle.laws_plans.proofs.laws.names_make_a_table_or_none.Goals as goal

pub returns : goal.returns
returns c = table_or_none
