use Rattle.cedar_names.specs.CanonicalText.{spaces}
use Rattle.schema_build_text.specs.Growing.{Leaves}
use Rattle.schema_build_text.proofs.pushing.push_spaces.Given as goal

abbrev pub invariant-loop-left : goal.invariant-loop-left
invariant-loop-left l = Leaves l.initial.text l.text (spaces l.left) (spaces l.count)

abbrev pub decreases-loop-left : goal.decreases-loop-left
decreases-loop-left l = l.left
