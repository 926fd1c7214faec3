use Rattle.laws_inclusion.proofs.Refused.{nothing_meant}
use Rattle.laws_inclusion.proofs.laws.refused_texts_mean_nothing.Goals as goal

pub returns : goal.returns
returns c = λ text table e m n h k. nothing_meant c.one_tree.ensures c.tree_or_error.ensures text table e m n h k
