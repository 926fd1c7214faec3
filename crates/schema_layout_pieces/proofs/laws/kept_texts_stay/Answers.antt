use Rattle.schema_layout_pieces.proofs.Fixed.{kept_keeps_pieces, kept_once}
use Rattle.schema_layout_pieces.proofs.laws.kept_texts_stay.Goals as goal

pub returns-clause-pieces : goal.returns-clause-pieces
returns-clause-pieces c = kept_keeps_pieces

pub returns-clause-once : goal.returns-clause-once
returns-clause-once c = kept_once
