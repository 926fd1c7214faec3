use Rattle.std.proofs.Common.{take, All}
use Rattle.schema_print_faithful.proofs.OrderlyItems.{IsOrderlyBlock}
use Rattle.schema_print_faithful.proofs.orderly_fragments.fragment_is_orderly.Given as goal

abbrev pub invariant-loop-namespace : goal.invariant-loop-namespace
invariant-loop-namespace l = All IsOrderlyBlock (take l.namespace-index l.namespace-items)
