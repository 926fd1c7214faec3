use Rattle.std.specs.Vec.Iter.{into_iter_items}
use Rattle.schema_compat_convert.specs.Converted.{ValuesBecome}
use Rattle.schema_compat_convert.proofs.Ahead.{Ahead}
use Rattle.schema_compat_convert.proofs.convert.convert_map.Given as goal

abbrev pub invariant-loop-key : goal.invariant-loop-key
invariant-loop-key g l = record {
  ahead : Ahead (λ e. g.V.Convert.asks e.1) (ValuesBecome g.V.Convert.Becomes) (into_iter_items l.key-iterator)
      l.fn.map l.out.items;
}
