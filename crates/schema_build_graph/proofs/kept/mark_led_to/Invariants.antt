use Rattle.std.proofs.Common.{◌≡◌, ◌≤◌, ◌⊎◌, ℕ, true, length, take, All, Contains}
use Rattle.schema_build_graph.specs.Graph.{targets_of}
use Rattle.schema_build_graph.specs.Needed.{MarksLedTo}
use Rattle.schema_build_graph.specs.Order.{is_marked}
use Rattle.schema_build_graph.proofs.kept.mark_led_to.Given as goal

abbrev pub invariant-loop-left : goal.invariant-loop-left
invariant-loop-left l = record {
  within : l.left ≤ length l.order;
  same : length l.marks ≡ length l.fn.marks;
  stay : (v : ℕ) → is_marked l.fn.marks v ≡ true → is_marked l.marks v ≡ true;
  open_ones : (v : ℕ) → is_marked l.marks v ≡ true
      → Contains (take l.left l.order) v ⊎ All (λ t. is_marked l.marks t ≡ true) (targets_of l.graph v);
  only : MarksLedTo l.graph l.fn.marks l.marks;
}

abbrev pub decreases-loop-left : goal.decreases-loop-left
decreases-loop-left l = l.left
