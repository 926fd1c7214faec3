use Rattle.laws_written.proofs.SaidDecls.{back_schema}
use Rattle.laws_written.proofs.laws.trees_are_spelled.Goals as goal

pub returns : goal.returns
returns c = λ source ts items tree u h is f s. back_schema source h tree is f u s
