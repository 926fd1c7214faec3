use Rattle.schema_syntax_grammar.proofs.LawLemmas.{not_empty}
use Rattle.schema_syntax_grammar.proofs.laws.expected_is_not_empty.Goals as goal

pub returns : goal.returns
returns c = not_empty
