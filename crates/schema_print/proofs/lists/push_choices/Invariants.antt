use Rattle.std.proofs.Common.{codes, map}
use Rattle.cedar_data.specs.NonEmpty.{items_left}
use Rattle.cedar_data.specs.Rows.{row_behind}
use Rattle.schema_syntax_tokens.specs.Laid.{laid}
use Rattle.laws_written.specs.PrintedDecls.{string_pieces}
use Rattle.schema_print_text.specs.Growing.{Leaves}
use Rattle.schema_print.proofs.lists.push_choices.Given as goal

abbrev pub invariant-loop-choice : goal.invariant-loop-choice
invariant-loop-choice l =
    Leaves l.initial.text l.text (row_behind (codes ", ") l.behind
    (map (λ c. laid (string_pieces c.0)) (items_left l.choice-iterator)))
    (row_behind (codes ", ") l.initial.behind (map (λ c. laid (string_pieces c.0)) l.choices))
