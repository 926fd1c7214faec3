use Rattle.std.proofs.Common.{◌≡◌, ◌∷◌, ◌++◌}
use Rattle.std.specs.Vec.Iter.{into_iter_items}
use Rattle.schema_convert_fragments.specs.Declarations.{each_with}
use Rattle.schema_convert_fragments.proofs.entries.push_each.Given as goal

abbrev pub invariant-loop-next : goal.invariant-loop-next
invariant-loop-next g l = l.entries.items ++ each_with l.fn.item (l.name ∷ into_iter_items l.next-iterator)
    ≡ l.fn.entries.items ++ each_with l.fn.item l.fn.names.items
