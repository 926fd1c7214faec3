use Rattle.schema_layout_pieces.proofs.Sentences.{sentence_apart}
use Rattle.schema_layout_pieces.proofs.laws.sentences_are_apart.Goals as goal

pub returns : goal.returns
returns c = λ kinds s. sentence_apart kinds s
