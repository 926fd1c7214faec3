use Rattle.cedar_names.specs.Orders.{id_text_order}
use Rattle.cedar_names.proofs.Ahead.{IsLeft}
use Rattle.cedar_names.proofs.sought.compare_rest.Given as goal

abbrev pub invariant-loop-at : goal.invariant-loop-at
invariant-loop-at l = IsLeft id_text_order l.words l.namespace l.last l.at
