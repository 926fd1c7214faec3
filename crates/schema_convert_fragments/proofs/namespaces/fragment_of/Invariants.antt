use Rattle.std.proofs.Common.{◌≡◌, ◌++◌}
use Rattle.std.specs.List.{filter_map}
use Rattle.std.specs.Vec.Iter.{into_iter_items}
use Rattle.schema_convert_fragments.specs.Fragments.{namespace_entry}
use Rattle.schema_convert_fragments.proofs.namespaces.fragment_of.Given as goal

abbrev pub invariant-loop-namespace : goal.invariant-loop-namespace
invariant-loop-namespace l = l.entries.items ++ filter_map namespace_entry (into_iter_items l.namespace-iterator)
    ≡ filter_map namespace_entry l.fn.namespaces.items
