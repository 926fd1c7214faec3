use Rattle.std.proofs.Common.{◌≡◌, ◌++◌, map}
use Rattle.std.specs.Vec.Iter.{into_iter_items}
use Rattle.schema_build_hierarchy.proofs.firsts.unreserved.Given as goal

abbrev pub invariant-loop-name : goal.invariant-loop-name
invariant-loop-name l = map (λ n. n.name) l.made.items ++ into_iter_items l.name-iterator ≡ l.fn.names.items
