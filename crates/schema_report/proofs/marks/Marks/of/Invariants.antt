use Rattle.std.proofs.Common.{◌-◌, length}
use Rattle.schema_report.specs.Marks.{IsMark, AreMarks}
use Rattle.schema_report.proofs.marks.Marks.of.Given as goal

abbrev pub invariant-loop-byte : goal.invariant-loop-byte
invariant-loop-byte l = AreMarks l.fn.text l.marks.bytes.items l.marks.characters.items l.marks.utf16.items
    × IsMark l.fn.text l.byte l.characters l.utf16

abbrev pub decreases-loop-byte : goal.decreases-loop-byte
decreases-loop-byte l = length l.fn.text - l.byte
