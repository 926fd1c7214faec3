use Rattle.std.proofs.Common.{◌≡◌, ◌++◌, ◌+◌, ◌≤◌, map, length, vec_len, vec_capacity}
use Rattle.schema_syntax_reader.specs.Collected.{note_of_entry}
use Rattle.schema_syntax_reader.proofs.annotations.without_places.Given as goal

abbrev pub invariant-loop-key : goal.invariant-loop-key
invariant-loop-key l =
    (l.notes.items ++ map note_of_entry l.key-iterator ≡ map note_of_entry l.fn.tree.entries)
    × (vec_len l.notes + length l.key-iterator ≤ vec_capacity l.notes)
