use Rattle.std.proofs.Common.{◌≡◌, pos}
use borrow.Author.Gap.{gap}
use Rattle.std.specs.Str.{bytes_eq}
use Rattle.cedar_data.proofs.byte_by_byte.same_bytes.Given as goal

abbrev pub invariant-loop-left : goal.invariant-loop-left
invariant-loop-left l = bytes_eq l.ones l.others ≡ bytes_eq l.first l.second

abbrev pub decreases-loop-left : goal.decreases-loop-left
decreases-loop-left l = gap (pos 0) l.left
