use Rattle.schema_syntax_parser.proofs.Sentences.{sentence_of}
use Rattle.schema_syntax_parser.proofs.laws.syntax_is_sentence.Goals as goal

pub returns : goal.returns
returns c = λ tokens items h. sentence_of h
