use Rattle.std.proofs.Common.{◌≡◌, ◌≤◌, true, false, cond, drop, length}
use Rattle.std.specs.List.{list_any, find}
use Rattle.schema_inclusion_check.proofs.missing.first_missing.Given as goal

abbrev pub invariant-loop-item : goal.invariant-loop-item
invariant-loop-item g l = record {
  within : l.next ≤ length l.new;
  rest : find (λ a. cond (list_any (g.T.PartialEq.eq a) l.new) false true) l.old
      ≡ find (λ a. cond (list_any (g.T.PartialEq.eq a) l.new) false true) (drop l.item-index l.old);
}
