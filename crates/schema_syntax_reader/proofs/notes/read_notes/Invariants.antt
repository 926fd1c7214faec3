use Rattle.std.proofs.Common.{◌≡◌, ◌≤◌, length, take, vec_len, vec_capacity}
use Rattle.std.specs.List.{AllZip}
use Rattle.schema_syntax_reader.specs.ReadNotes.{IsRead}
use Rattle.schema_syntax_reader.proofs.notes.read_notes.Given as goal

abbrev pub invariant-loop-note : goal.invariant-loop-note
invariant-loop-note l =
    AllZip (IsRead l.text) (take l.note-index l.list) l.notes.items
    × (vec_len l.notes ≡ l.note-index) × (length l.list ≤ vec_capacity l.notes)
