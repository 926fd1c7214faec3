use Rattle.schema_layout_pieces.proofs.Fixed.{laid_back}
use Rattle.schema_layout_pieces.proofs.laws.laid_pieces_are_read_back.Goals as goal

pub returns : goal.returns
returns c = laid_back
