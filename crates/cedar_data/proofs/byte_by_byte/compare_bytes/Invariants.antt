use Rattle.std.proofs.Common.{◌≡◌, pos}
use borrow.Author.Gap.{gap}
use Rattle.std.specs.Cmp.Lexicographic.{slice_cmp}
use Rattle.std.specs.Ordering.{nat_cmp}
use Rattle.cedar_data.proofs.byte_by_byte.compare_bytes.Given as goal

abbrev pub invariant-loop-left : goal.invariant-loop-left
invariant-loop-left l = slice_cmp nat_cmp l.ones l.others ≡ slice_cmp nat_cmp l.first l.second

abbrev pub decreases-loop-left : goal.decreases-loop-left
decreases-loop-left l = gap (pos 0) l.left
