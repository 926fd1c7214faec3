use Rattle.std.proofs.Common.{◌≡◌, map, take, All}
use Rattle.std.specs.List.{flat_map}
use Rattle.std.specs.Map.{keys_of}
use Rattle.std.specs.List.Sorted.{IsStrictlySortedBy}
use Rattle.cedar_data.specs.Text.{text_cmp}
use Rattle.schema_build_hierarchy.specs.Declarations.{actions_of}
use Rattle.schema_build_hierarchy.specs.Entries.{action_of_entry}
use Rattle.schema_build_hierarchy.proofs.entries.actions_in_order.Given as goal

abbrev pub invariant-loop-ns : goal.invariant-loop-ns
invariant-loop-ns l = record {
  gathered : map action_of_entry l.entries.items ≡ flat_map actions_of (take l.ns-index l.ns-items);
  rising : All (λ e. IsStrictlySortedBy text_cmp (keys_of e.1.actions)) (take l.ns-index l.ns-items);
}
