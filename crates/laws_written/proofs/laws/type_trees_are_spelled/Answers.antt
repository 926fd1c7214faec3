use Rattle.laws_written.proofs.SaidNotes.{back_notes}
use Rattle.laws_written.proofs.SaidTypes.{back_type}
use Rattle.laws_written.proofs.laws.type_trees_are_spelled.Goals as goal

pub returns : goal.returns
returns c = λ source ts t n u h is f s. back_type source (back_notes source) h n is f u s
