use Rattle.std.proofs.Common.{codes, map, drop}
use Rattle.cedar_data.specs.Rows.{row_behind}
use Rattle.schema_syntax_tokens.specs.Laid.{laid}
use Rattle.laws_written.specs.PrintedDecls.{ref_pieces}
use Rattle.schema_print_text.specs.Growing.{Leaves}
use Rattle.schema_print.specs.PrintedFragments.{printed_parent}
use Rattle.schema_print.proofs.lists.push_actions.Given as goal

abbrev pub invariant-loop-action : goal.invariant-loop-action
invariant-loop-action g l =
    Leaves l.initial.text l.text (row_behind (codes ", ") l.behind
    (map (λ a. laid (ref_pieces (printed_parent g.N.NameText.components a))) (drop l.action-index l.actions)))
    (row_behind (codes ", ") l.initial.behind
    (map (λ a. laid (ref_pieces (printed_parent g.N.NameText.components a))) l.actions))
