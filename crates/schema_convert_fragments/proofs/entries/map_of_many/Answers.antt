use Rattle.std.proofs.Common.{◌≡◌, IfOk, subst}
use Rattle.schema_convert_fragments.proofs.Moved.{map_of_moved, told_of}
use Rattle.schema_convert_fragments.proofs.entries.map_of_many.Goals as goal

pub returns-in-Some : goal.returns-in-Some
returns-in-Some g c =
    let same = map_of_moved g.met.K.Ord.total c.args.entries.items c.move_to_places.new.items.items
    c.move_to_places.ensures (told_of c.in_ok-found.found c.in-Some.places c.in-Some.is
    c.in_ok-found.ensures.distinct) in
    subst (λ made. IfOk c.from_entries.result (λ map. map ≡ made)) same c.from_entries.ensures.entries
