use Rattle.std.proofs.Common.{◌≤◌, ◌-◌, length}
use Rattle.schema_resolve_lookup.proofs.declared_in.has_entity_near.Given as goal

abbrev pub invariant-loop-low : goal.invariant-loop-low
invariant-loop-low l = record {
  within : l.high ≤ length l.entries;
}

abbrev pub decreases-loop-low : goal.decreases-loop-low
decreases-loop-low l = l.high - l.low
