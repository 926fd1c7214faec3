use Rattle.std.proofs.Common.{codes, map, drop, true}
use Rattle.cedar_data.specs.Rows.{row_behind}
use Rattle.schema_syntax_tokens.specs.Laid.{laid}
use Rattle.schema_print_text.specs.Growing.{Leaves}
use Rattle.schema_print.specs.PrintedFragments.{block_pieces}
use Rattle.schema_print.proofs.fragments.print_fragment.Given as goal

abbrev pub invariant-loop-name : goal.invariant-loop-name
invariant-loop-name g l =
    Leaves l.initial.text l.text (row_behind (codes "\n") l.behind
    (map (λ b. laid (block_pieces g.N.NameText.components true b)) (drop l.name-index l.name-items)))
    (row_behind (codes "\n") l.initial.behind
    (map (λ b. laid (block_pieces g.N.NameText.components true b)) l.name-items))
