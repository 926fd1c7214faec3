use Rattle.std.proofs.lemmas.Grind.{common_steps}
use Rattle.std.proofs.Common.{◌<◌, length, arith}
use Rattle.std.proofs.lemmas.List.Elements.{All-get_or}
use Rattle.schema_build.proofs.Placed.{one_more, shared_within, shared_at}
use Rattle.schema_build.proofs.assembly.names_at.Goals as goal

pub bounds-shared-place : goal.bounds-shared-place
bounds-shared-place g c =
    shared_within (λ e. e.name) c.args.entries.now c.args.shared.now _ c.requires.shared
    (All-get_or (λ place. place < length c.args.entries.now) c.args.places.now c.loop-place.place-index 0
    c.loop-place-test.true c.requires.places)

pub name_of-requires : goal.name_of-requires
name_of-requires g c =
    shared_at (λ e. e.name) c.args.entries.now c.args.shared.now _ c.index-entries-place.result
    c.index-shared-place.result c.requires.shared
    (All-get_or (λ place. place < length c.args.entries.now) c.args.places.now c.loop-place.place-index 0
    c.loop-place-test.true c.requires.places)
    c.index-entries-place.is c.index-shared-place.is

pub loop-place-preserved : goal.loop-place-preserved
loop-place-preserved g c =
    one_more (λ e. e.name) c.args.entries.now c.args.places.now c.loop-place.place-index c.loop-place.found.items
    c.push.new.self.items c.in_ok-name_of.field-0 c.index-entries-place.result c.loop-place-test.true
    (All-get_or (λ place. place < length c.args.entries.now) c.args.places.now c.loop-place.place-index 0
    c.loop-place-test.true c.requires.places)
    c.index-entries-place.is c.in_ok-name_of.ensures c.in_ok-push.ensures.items c.loop-place.invariant

pub returns : goal.returns
returns g c = grind (arith, common_steps)
