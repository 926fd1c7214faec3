use Rattle.laws_written.proofs.ReadingBack.{same_lexemes, placed_spell}
use Rattle.laws_written.proofs.laws.lexemes_decide_what_is_said.Goals as goal

pub returns-clause-same : goal.returns-clause-same
returns-clause-same c = same_lexemes c.one_value.ensures.value_or_bad

pub returns-clause-placed : goal.returns-clause-placed
returns-clause-placed c = placed_spell
