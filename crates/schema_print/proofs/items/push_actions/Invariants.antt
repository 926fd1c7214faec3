use Rattle.std.proofs.Common.{codes, map, drop, true}
use Rattle.cedar_data.specs.Rows.{row_behind}
use Rattle.schema_syntax_tokens.specs.Laid.{laid}
use Rattle.schema_print_text.specs.Growing.{Leaves}
use Rattle.schema_print.specs.PrintedFragments.{action_pieces}
use Rattle.schema_print.proofs.items.push_actions.Given as goal

abbrev pub invariant-loop-id : goal.invariant-loop-id
invariant-loop-id g l =
    Leaves l.initial.text l.text (row_behind (codes "\n") l.behind
    (map (λ x. laid (action_pieces g.N.NameText.components true l.base x)) (drop l.id-index l.actions)))
    (row_behind (codes "\n") l.initial.behind
    (map (λ x. laid (action_pieces g.N.NameText.components true l.base x)) l.actions))
