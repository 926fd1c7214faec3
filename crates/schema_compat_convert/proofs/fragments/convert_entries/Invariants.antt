use Rattle.std.specs.List.{AllZip}
use Rattle.std.specs.Vec.Iter.{into_iter_items}
use Rattle.schema_compat_convert.specs.Demands.{asks_entry}
use Rattle.schema_compat_convert.specs.Converted.{EntryBecomes}
use Rattle.schema_compat_convert.proofs.Ahead.{Ahead}
use Rattle.schema_compat_convert.proofs.fragments.convert_entries.Given as goal

abbrev pub invariant-loop-name : goal.invariant-loop-name
invariant-loop-name l = record {
  ahead : Ahead asks_entry (AllZip EntryBecomes) (into_iter_items l.name-iterator) l.fn.entries.items l.out.items;
}
