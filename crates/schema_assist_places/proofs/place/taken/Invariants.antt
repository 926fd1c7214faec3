use Rattle.std.proofs.Common.{◌≡◌, ◌≤◌, length, reverse, take}
use Rattle.schema_assist_places.specs.Trace.{taken}
use Rattle.schema_assist_places.proofs.place.taken.Given as goal

abbrev pub invariant-loop-left : goal.invariant-loop-left
invariant-loop-left l =
    (l.left ≤ length l.stack) × (taken (reverse l.stack) l.kind ≡ taken (reverse (take l.left l.stack)) l.kind)

abbrev pub decreases-loop-left : goal.decreases-loop-left
decreases-loop-left l = l.left
