use Rattle.std.proofs.Common.{◌≡◌, drop}
use Rattle.std.specs.List.{list_all}
use Rattle.schema_print.specs.PrintableTests.{passes_action}
use Rattle.schema_print.proofs.printable_items.are_printable_actions.Given as goal

abbrev pub invariant-loop-action : goal.invariant-loop-action
invariant-loop-action l =
    list_all (λ a. passes_action a.1) (drop l.action-index l.actions)
    ≡ list_all (λ a. passes_action a.1) l.actions
