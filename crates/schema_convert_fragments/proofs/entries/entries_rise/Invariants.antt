use Rattle.std.proofs.Common.{◌≡◌, ◌+◌, ◌<◌, ℕ, get_or}
use Rattle.std.specs.declared.cmp.Ordering.TheVariants.{Less}
use Rattle.schema_convert_fragments.proofs.entries.entries_rise.Given as goal

abbrev pub invariant-loop-next : goal.invariant-loop-next
invariant-loop-next g l =
    (k : ℕ) (d : g.row.K.Denot × g.row.T.Denot) → k + 1 < l.next
    → g.K.Ord.cmp (get_or l.entries.items k d).0 (get_or l.entries.items (k + 1) d).0 ≡ Less
