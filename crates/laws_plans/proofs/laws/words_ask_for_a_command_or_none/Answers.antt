use Rattle.laws_plans.proofs.Asked.{asked_or_none}
use Rattle.laws_plans.proofs.Tables.{table_or_none}
use Rattle.laws_plans.proofs.laws.words_ask_for_a_command_or_none.Goals as goal

pub returns : goal.returns
returns c = asked_or_none table_or_none
