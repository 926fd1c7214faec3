use Rattle.schema_syntax_grammar.proofs.Faults.{front_viable}
use Rattle.schema_syntax_grammar.proofs.laws.viable_fronts.Goals as goal

pub returns : goal.returns
returns c = front_viable
