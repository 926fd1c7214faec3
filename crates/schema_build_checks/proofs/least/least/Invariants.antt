use Rattle.std.proofs.Common.{◌≡◌, List, [], ◌++◌}
use Rattle.std.specs.Prelude.{MatchOption}
use Rattle.std.specs.Vec.Iter.{into_iter_items}
use Rattle.schema_build_checks.specs.Least.{IsFirstLeast}
use Rattle.schema_build_checks.proofs.least.least.Given as goal

abbrev pub invariant-loop-item : goal.invariant-loop-item
invariant-loop-item g l = (taken : List _) × (taken ++ into_iter_items l.item-iterator ≡ l.fn.items.items)
    × MatchOption l.least (taken ≡ []) (IsFirstLeast g.T.Ord.cmp taken)
