use Rattle.std.proofs.Common.{◌≡◌, map, take, All}
use Rattle.std.specs.List.{flat_map}
use Rattle.std.specs.Map.{keys_of}
use Rattle.std.specs.List.Sorted.{IsStrictlySortedBy}
use Rattle.cedar_data.specs.Text.{text_cmp}
use Rattle.schema_build_hierarchy.specs.Declarations.{entities_of}
use Rattle.schema_build_hierarchy.specs.Entries.{entity_of}
use Rattle.schema_build_hierarchy.proofs.entries.entities_in_order.Given as goal

abbrev pub invariant-loop-ns : goal.invariant-loop-ns
invariant-loop-ns l = record {
  gathered : map entity_of l.entries.items ≡ flat_map entities_of (take l.ns-index l.ns-items);
  rising : All (λ e. IsStrictlySortedBy (λ x y. text_cmp x.id.text y.id.text) (keys_of e.1.entity_types))
      (take l.ns-index l.ns-items);
}
