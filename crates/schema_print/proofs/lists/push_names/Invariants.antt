use Rattle.std.proofs.Common.{codes, map, drop}
use Rattle.cedar_data.specs.Rows.{row_behind}
use Rattle.schema_syntax_tokens.specs.Laid.{laid}
use Rattle.laws_written.specs.Printed.{path_pieces}
use Rattle.schema_print_text.specs.Growing.{Leaves}
use Rattle.schema_print_text.specs.PrintedTypes.{printed_name}
use Rattle.schema_print.proofs.lists.push_names.Given as goal

abbrev pub invariant-loop-name : goal.invariant-loop-name
invariant-loop-name g l =
    Leaves l.initial.text l.text (row_behind (codes ", ") l.behind
    (map (λ n. laid (path_pieces (printed_name (g.N.NameText.components n)))) (drop l.name-index l.names)))
    (row_behind (codes ", ") l.initial.behind
    (map (λ n. laid (path_pieces (printed_name (g.N.NameText.components n)))) l.names))
