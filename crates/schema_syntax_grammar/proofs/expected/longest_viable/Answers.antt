use Rattle.schema_syntax_grammar.proofs.Faults.{stopped}
use Rattle.schema_syntax_grammar.proofs.Main.{stack_viable}
use Rattle.schema_syntax_grammar.proofs.expected.longest_viable.Goals as goal

pub returns-clause-viable : goal.returns-clause-viable
returns-clause-viable c = stack_viable _ _ c.in_ok-front.ensures.stack

pub returns-clause-stops : goal.returns-clause-stops
returns-clause-stops c = λ lt. stopped _ _ _ lt c.in_ok-front.ensures.stack c.in_ok-front.ensures.stops
