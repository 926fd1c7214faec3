use Rattle.std.proofs.Common.{◌≡◌, ◌++◌, map}
use Rattle.std.specs.Vec.Iter.{into_iter_items}
use Rattle.schema_convert_faults.specs.Borrowed.{entry_now}
use Rattle.schema_convert_faults.proofs.Sorted.{id_entries}
use Rattle.schema_convert_faults.proofs.shadowing.by_id.Given as goal

abbrev pub invariant-loop-name : goal.invariant-loop-name
invariant-loop-name l = map entry_now l.entries.items ++ id_entries (into_iter_items l.name-iterator)
    ≡ id_entries l.fn.names.items
