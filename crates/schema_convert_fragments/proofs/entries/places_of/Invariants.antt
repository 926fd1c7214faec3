use Rattle.std.proofs.Common.{◌≡◌, ◌++◌, map}
use Rattle.std.specs.Vec.Iter.{into_iter_items}
use Rattle.schema_convert_fragments.proofs.entries.places_of.Given as goal

abbrev pub invariant-loop-place : goal.invariant-loop-place
invariant-loop-place g l =
    l.places.items ++ map (λ k. k.1) (into_iter_items l.place-iterator) ≡ map (λ k. k.1) l.fn.keys.items
