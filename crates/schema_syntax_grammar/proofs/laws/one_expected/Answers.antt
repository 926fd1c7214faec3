use Rattle.schema_syntax_grammar.proofs.LawLemmas.{one_list}
use Rattle.schema_syntax_grammar.proofs.laws.one_expected.Goals as goal

pub returns : goal.returns
returns c = one_list
