use Rattle.schema_syntax_grammar.proofs.LawLemmas.{end_viable}
use Rattle.schema_syntax_grammar.proofs.laws.viable_at_end.Goals as goal

pub returns : goal.returns
returns c = end_viable
