use Rattle.std.proofs.Common.{◌≡◌, ◌++◌}
use Rattle.std.specs.List.{flat_map}
use Rattle.std.specs.Vec.Iter.{into_iter_items}
use Rattle.schema_convert_openings.proofs.openings.with_others.Given as goal

abbrev pub invariant-loop-opening : goal.invariant-loop-opening
invariant-loop-opening l = record {
  decls : l.decls.items ++ flat_map (λ n. n.item.decls) (into_iter_items l.opening-iterator) ≡ l.fn.decls
      ++ flat_map (λ n. n.item.decls) l.fn.others.items;
  entries : l.entries.items ++ flat_map (λ n. n.annotations.0) (into_iter_items l.opening-iterator)
      ≡ l.fn.annotations.0 ++ flat_map (λ n. n.annotations.0) l.fn.others.items;
}
