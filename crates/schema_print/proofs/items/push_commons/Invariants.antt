use Rattle.std.proofs.Common.{codes, map, drop, true}
use Rattle.cedar_data.specs.Rows.{row_behind}
use Rattle.schema_syntax_tokens.specs.Laid.{laid}
use Rattle.schema_print_text.specs.Growing.{Leaves}
use Rattle.schema_print.specs.PrintedFragments.{common_type_pieces}
use Rattle.schema_print.proofs.items.push_commons.Given as goal

abbrev pub invariant-loop-name : goal.invariant-loop-name
invariant-loop-name g l =
    Leaves l.initial.text l.text (row_behind (codes "\n") l.behind
    (map (λ x. laid (common_type_pieces g.N.NameText.components true l.base x)) (drop l.name-index l.commons)))
    (row_behind (codes "\n") l.initial.behind
    (map (λ x. laid (common_type_pieces g.N.NameText.components true l.base x)) l.commons))
