use Rattle.std.proofs.Common.{◌≡◌, None, length, All}
use Rattle.schema_build_expand.proofs.commons.none_of.Given as goal

abbrev pub invariant-loop : goal.invariant-loop
invariant-loop l = record {
  none : All (λ d. d ≡ None) l.done.items;
  len : length l.done.items ≡ l.counter;
}
