use Rattle.std.proofs.Common.{◌≡◌, ◌++◌}
use Rattle.cedar_data.proofs.map.Map.from_tree.Given as goal

abbrev pub invariant-loop-key : goal.invariant-loop-key
invariant-loop-key g l = l.entries.items ++ l.key-iterator ≡ l.fn.tree.entries
