use Rattle.schema_layout_pieces.proofs.OnePieces.{one_pieces}
use Rattle.schema_layout_pieces.proofs.Tokens.{pieces_are_read, scanned_has_pieces}
use Rattle.schema_layout_pieces.proofs.laws.pieces_of_texts.Goals as goal

pub returns-clause-one : goal.returns-clause-one
returns-clause-one c = λ text pieces others h k. one_pieces h k

pub returns-clause-tokens : goal.returns-clause-tokens
returns-clause-tokens c = pieces_are_read

pub returns-clause-some : goal.returns-clause-some
returns-clause-some c = scanned_has_pieces
