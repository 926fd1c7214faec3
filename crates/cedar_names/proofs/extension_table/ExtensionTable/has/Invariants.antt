use Rattle.std.proofs.Common.{◌≡◌, ◌-◌, ◌≤◌, ℕ, ◌<◌, length, get_or}
use Rattle.std.specs.declared.cmp.Ordering.TheVariants.{Less, Greater}
use Rattle.std.specs.Cmp.Lexicographic.{slice_cmp}
use Rattle.std.specs.Ordering.{nat_cmp}
use Rattle.cedar_identifiers.specs.declared.unreserved_id.UnreservedId.{UnreservedId}
use Rattle.cedar_names.proofs.extension_table.ExtensionTable.has.Given as goal

abbrev pub invariant-loop-low : goal.invariant-loop-low
invariant-loop-low l = record {
  ordered : l.low ≤ l.high;
  in_range : l.high ≤ length l.self.names;
  below : (k : ℕ) (d : UnreservedId) → k < l.low → slice_cmp nat_cmp (get_or l.self.names k d).id.text l.id ≡ Less;
  above : (k : ℕ) (d : UnreservedId) → l.high ≤ k → k < length l.self.names
      → slice_cmp nat_cmp (get_or l.self.names k d).id.text l.id ≡ Greater;
}

abbrev pub decreases-loop-low : goal.decreases-loop-low
decreases-loop-low l = l.high - l.low
