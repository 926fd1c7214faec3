use Rattle.std.proofs.Common.{drop}
use Rattle.schema_syntax_tokens.specs.Laid.{laid}
use Rattle.laws_written.specs.Printed.{notes_pieces}
use Rattle.schema_print_text.specs.Growing.{Leaves}
use Rattle.schema_print_text.proofs.notes.push_notes.Given as goal

abbrev pub invariant-loop-key : goal.invariant-loop-key
invariant-loop-key l =
    Leaves l.initial.text l.text (laid (notes_pieces l.base (drop l.key-index l.key-items)))
    (laid (notes_pieces l.base l.key-items))
