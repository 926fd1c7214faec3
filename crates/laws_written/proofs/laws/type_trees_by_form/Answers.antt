use Rattle.laws_written.proofs.Back.{view}
use Rattle.laws_written.proofs.laws.type_trees_by_form.Goals as goal

pub returns : goal.returns
returns c = λ source t n h. view source h
