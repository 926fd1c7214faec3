use Rattle.std.proofs.Common.{map}
use Rattle.std.specs.Option.{option_cmp}
use Rattle.std.specs.Vec.Iter.{into_iter_items}
use Rattle.schema_convert_openings.specs.Joined.{path_cmp}
use Rattle.schema_convert_openings.proofs.Grouped.{opened}
use Rattle.schema_convert_openings.proofs.Ranked.{Grouped}
use Rattle.schema_convert_openings.proofs.openings.openings_by_name.Given as goal

abbrev pub invariant-loop-namespace : goal.invariant-loop-namespace
invariant-loop-namespace l =
    Grouped (λ n. n.item.name) (option_cmp path_cmp) l.fn.namespaces.items (into_iter_items l.namespace-iterator)
    l.places.entries (map opened l.groups.items)
