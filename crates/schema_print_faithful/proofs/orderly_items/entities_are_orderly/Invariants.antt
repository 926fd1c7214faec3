use Rattle.std.proofs.Common.{take, All}
use Rattle.schema_print_faithful.proofs.OrderlyItems.{IsOrderlyEntity}
use Rattle.schema_print_faithful.proofs.orderly_items.entities_are_orderly.Given as goal

abbrev pub invariant-loop-entity : goal.invariant-loop-entity
invariant-loop-entity l = All IsOrderlyEntity (take l.entity-index l.entries)
