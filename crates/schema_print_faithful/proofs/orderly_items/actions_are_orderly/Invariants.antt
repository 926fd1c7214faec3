use Rattle.std.proofs.Common.{take, All}
use Rattle.schema_print_faithful.proofs.OrderlyItems.{IsOrderlyAction}
use Rattle.schema_print_faithful.proofs.orderly_items.actions_are_orderly.Given as goal

abbrev pub invariant-loop-action : goal.invariant-loop-action
invariant-loop-action l = All IsOrderlyAction (take l.action-index l.entries)
