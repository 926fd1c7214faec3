use Rattle.std.proofs.Common.{◌≡◌, map, take}
use Rattle.schema_convert_openings.specs.Repeats.{fingerprint}
use Rattle.schema_convert_openings.proofs.repeats.are_apart.Given as goal

abbrev pub invariant-loop-item : goal.invariant-loop-item
invariant-loop-item g l =
    l.numbers.items ≡ map (λ x. fingerprint (g.T.Hash.hash_input x.now)) (take l.item-index l.items.items)
