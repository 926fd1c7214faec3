use Rattle.std.specs.Vec.Iter.{into_iter_items}
use Rattle.schema_convert_plain.proofs.ItemByItem.{AddedTo}
use Rattle.schema_convert_plain.proofs.gathering.push_read.Given as goal

abbrev pub invariant-loop-raw : goal.invariant-loop-raw
invariant-loop-raw l = AddedTo l.text l.table l.fn.raws (into_iter_items l.raw-iterator) l.fn.entries l.entries
