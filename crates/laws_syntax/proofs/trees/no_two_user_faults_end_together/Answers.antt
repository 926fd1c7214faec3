use Rattle.laws_syntax.proofs.OneTree.OneError.{no_two_together}
use Rattle.laws_syntax.proofs.trees.no_two_user_faults_end_together.Goals as goal

pub returns : goal.returns
returns c = no_two_together c.one_value.ensures.bad
