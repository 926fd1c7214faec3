use Rattle.std.proofs.Common.{refl}
use Rattle.schema_syntax_parser.proofs.Made.{made}
use Rattle.schema_syntax_parser.proofs.Sentences.{sentence_of}
use Rattle.schema_syntax_parser.proofs.laws.sentences_have_a_syntax.Goals as goal

pub returns : goal.returns
returns c = λ tokens. (λ sentence. made sentence tokens refl, λ has. sentence_of has.1)
