use Rattle.schema_syntax_grammar.proofs.LawLemmas.{same_fault}
use Rattle.schema_syntax_grammar.proofs.laws.one_fault.Goals as goal

pub returns : goal.returns
returns c = same_fault
