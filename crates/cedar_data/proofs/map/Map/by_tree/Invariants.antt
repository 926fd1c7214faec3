use Rattle.std.proofs.Common.{◌≡◌}
use Rattle.std.specs.BTreeMap.{get, is_at}
use Rattle.std.specs.Option.{option_or}
use Rattle.cedar_data.specs.Maps.{with_entries, map_of, last_at}
use Rattle.cedar_data.proofs.map.Map.by_tree.Given as goal

abbrev pub invariant-loop-key : goal.invariant-loop-key
invariant-loop-key g l = record {
  made : with_entries g.K.Ord.cmp l.tree.entries l.key-iterator.rest.items ≡ map_of g.K.Ord.cmp l.fn.entries.items;
  last : (q : g.row.K.Denot)
      → option_or (last_at (is_at (g.K.Ord.cmp q)) l.key-iterator.rest.items) (get g.K.Ord.cmp l.tree q)
      ≡ last_at (is_at (g.K.Ord.cmp q)) l.fn.entries.items;
}
