use Rattle.std.proofs.Common.{take}
use Rattle.schema_report.specs.Lines.{AreLineStarts}
use Rattle.schema_report.proofs.lines.line_starts.Given as goal

abbrev pub invariant-loop-at : goal.invariant-loop-at
invariant-loop-at l = AreLineStarts (take l.at l.bytes) l.starts.items
