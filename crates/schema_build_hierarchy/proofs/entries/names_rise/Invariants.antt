use Rattle.std.proofs.Common.{◌≡◌, ◌+◌, ◌<◌, ℕ, get_or}
use Rattle.std.specs.declared.cmp.Ordering.TheVariants.{Less}
use Rattle.schema_build_hierarchy.specs.declared.entries.Entry.{Entry}
use Rattle.schema_build_hierarchy.proofs.entries.names_rise.Given as goal

abbrev pub invariant-loop-next : goal.invariant-loop-next
invariant-loop-next g l =
    (k : ℕ) (d : Entry g.row.K.Denot g.row.T.Denot) → k + 1 < l.next
    → g.K.Ord.cmp (get_or l.entries.items k d).name (get_or l.entries.items (k + 1) d).name ≡ Less
