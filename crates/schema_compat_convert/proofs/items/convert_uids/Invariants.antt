use Rattle.std.specs.List.{AllZip}
use Rattle.std.specs.Prelude.{[]}
use Rattle.std.specs.Vec.Iter.{into_iter_items}
use Rattle.schema_compat_convert.specs.Converted.{UidBecomes}
use Rattle.schema_compat_convert.proofs.Ahead.{Ahead}
use Rattle.schema_compat_convert.proofs.items.convert_uids.Given as goal

abbrev pub invariant-loop-uid : goal.invariant-loop-uid
invariant-loop-uid l = record {
  ahead : Ahead (λ u. []) (AllZip UidBecomes) (into_iter_items l.uid-iterator) l.fn.uids l.out;
}
