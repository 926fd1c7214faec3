use Rattle.std.proofs.Common.{◌≡◌, ◌∷◌, ◌++◌, map}
use Rattle.std.specs.Vec.Iter.{into_iter_items}
use Rattle.schema_convert_openings.specs.Joined.{opened_as, joined_by_name}
use Rattle.schema_convert_openings.proofs.openings.joined_by_name.Given as goal

abbrev pub invariant-loop-openings : goal.invariant-loop-openings
invariant-loop-openings l = l.joined.items
    ++ map (λ g. opened_as g.first (g.first ∷ g.others.items)) (into_iter_items l.openings-iterator)
    ≡ joined_by_name l.fn.namespaces.items
