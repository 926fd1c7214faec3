use Rattle.std.proofs.Common.{map, refl, ap, ◌∙◌, ◌++◌}
use Rattle.std.specs.List.{flat_map}
use Rattle.std.proofs.lemmas.List.{at_drop_all}
use Rattle.cedar_identifiers.specs.Names.{components_of}
use Rattle.schema_print.specs.Collisions.{block_collisions}
use Rattle.schema_print.proofs.Wanted.{gathers_begun, gathers_round, gathers_ended, given_step}
use Rattle.schema_print.proofs.unprintable.collisions.Goals as goal

pub loop-name-init : goal.loop-name-init
loop-name-init g c = gathers_begun _ _ _ refl

pub loop-name-preserved : goal.loop-name-preserved
loop-name-preserved g c =
    gathers_round (block_collisions c.loop-name-item.result) c.in_ok-add_collisions.ensures c.loop-name.invariant
    (given_step block_collisions c.as_slice-name-items.result.now c.loop-name.name-index c.loop-name-item.result
    c.loop-name-test.true c.loop-name-item.is)

pub returns : goal.returns
returns g c =
    gathers_ended c.loop-name.invariant
    (at_drop_all (flat_map block_collisions) c.as_slice-name-items.result.now c.loop-name.name-index
    c.loop-name-test.false)
    ∙ (ap (λ ns. map components_of ns ++ flat_map block_collisions c.as_slice-name-items.result.now)
    c.new-names.ensures.items
    ∙ ap (flat_map block_collisions) c.as_slice-name-items.ensures.entries)
