use Rattle.std.proofs.Common.{◌≡◌, ◌++◌}
use Rattle.std.specs.String.{string_bytes}
use Rattle.schema_layout_pieces.specs.Layout.{indent}
use Rattle.schema_layout_pieces.proofs.writer.push_line.Given as goal

abbrev pub invariant-loop : goal.invariant-loop
invariant-loop l = string_bytes l.text ≡ string_bytes l.initial.text ++ indent l.counter
