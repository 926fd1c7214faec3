use Rattle.std.proofs.Common.{◌≡◌, ◌++◌}
use Rattle.cedar_names.proofs.table_words.into_set.Given as goal

abbrev pub invariant-loop-id : goal.invariant-loop-id
invariant-loop-id l = l.items.items ++ l.id-iterator ≡ l.fn.seen.keys
