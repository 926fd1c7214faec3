use mathlib.Core.Logic.Iff.{trans as both_ways}
use Rattle.laws_translate.proofs.Sayable.{sayable_iff}
use Rattle.laws_translate.proofs.laws.faults_depend_on_what_is_said.Goals as goal

pub returns : goal.returns
returns c = λ tree w h k. both_ways (c.lawful_trees.ensures tree) (sayable_iff tree w h k)
