use Rattle.schema_layout_pieces.proofs.Fixed.{keeps_pieces, laid_once}
use Rattle.schema_layout_pieces.proofs.laws.laid_texts_stay.Goals as goal

pub returns-clause-pieces : goal.returns-clause-pieces
returns-clause-pieces c = keeps_pieces

pub returns-clause-once : goal.returns-clause-once
returns-clause-once c = laid_once
