use Rattle.schema_syntax_grammar.proofs.Main.{sentence_viable}
use Rattle.schema_syntax_grammar.proofs.laws.sentences_are_viable.Goals as goal

pub returns : goal.returns
returns c = sentence_viable
