use Rattle.std.proofs.Common.{◌≡◌, ◌++◌, length}
use Rattle.cedar_data.specs.Rows.{listed}
use Rattle.cedar_data.proofs.rows.listed.Given as goal

abbrev pub invariant-loop-text : goal.invariant-loop-text
invariant-loop-text l = l.list ++ listed l.between l.before_last l.left ≡ listed l.between l.before_last l.fn.texts

abbrev pub decreases-loop-text : goal.decreases-loop-text
decreases-loop-text l = length l.left
