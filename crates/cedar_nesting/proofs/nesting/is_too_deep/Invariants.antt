use Rattle.std.proofs.Common.{◌≡◌, ◌≤◌, drop}
use Rattle.cedar_nesting.specs.declared.nesting.Place.TheVariants.{Outside}
use Rattle.cedar_nesting.proofs.Depths.{deep_from}
use Rattle.cedar_nesting.proofs.nesting.is_too_deep.Given as goal

abbrev pub invariant-loop-byte : goal.invariant-loop-byte
invariant-loop-byte l =
    (deep_from l.place l.opened l.closed (drop l.byte-index l.bytes) ≡ deep_from Outside 0 0 l.bytes)
    × (l.opened ≤ l.byte-index) × (l.closed ≤ l.byte-index)
