use Rattle.std.proofs.Common.{◌+◌, ◌≤◌, length, vec_len, vec_capacity}
use Rattle.std.specs.Vec.Iter.{into_iter_items}
use Rattle.schema_syntax_reader.proofs.Readings.{ReadTo}
use Rattle.schema_syntax_reader.proofs.parts.each.Given as goal

abbrev pub invariant-loop-raw : goal.invariant-loop-raw
invariant-loop-raw g l =
    ReadTo l.text g.P.Part.sites (g.P.Part.stands_for l.text) l.fn.raws.items
    (into_iter_items l.raw-iterator) l.items.items
    × (vec_len l.items + length (into_iter_items l.raw-iterator) ≤ vec_capacity l.items)
