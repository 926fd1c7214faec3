use Rattle.std.proofs.Common.{take, All}
use Rattle.schema_print_faithful.proofs.OrderlyItems.{IsOrderlyCommon}
use Rattle.schema_print_faithful.proofs.orderly_items.commons_are_orderly.Given as goal

abbrev pub invariant-loop-common : goal.invariant-loop-common
invariant-loop-common l = All IsOrderlyCommon (take l.common-index l.entries)
