use Rattle.std.proofs.Common.{◌≡◌, map, take}
use Rattle.std.specs.List.{filter}
use Rattle.schema_build_recovered.specs.Places.{on_side, words_of}
use Rattle.schema_build_recovered.proofs.namespaces.side.Given as goal

abbrev pub invariant-loop-at : goal.invariant-loop-at
invariant-loop-at g l =
    map (λ x. x.now) l.those.items
    ≡ filter (λ x. on_side l.below (words_of l.pivot.words) (g.T.Item.home_words x))
    (take l.at (map (λ x. x.now) l.items.items))
