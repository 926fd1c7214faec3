use Rattle.std.proofs.Common.{map, refl, ap, ◌∙◌, ◌++◌}
use Rattle.std.proofs.lemmas.List.{at_drop_all}
use Rattle.cedar_identifiers.specs.Names.{components_of}
use Rattle.schema_print.specs.Collisions.{if_wanted, declared_in, is_shapeless, shapeless_in}
use Rattle.schema_print.proofs.Wanted.{gathers_begun, gathers_round, gathers_ended, wanted_step}
use Rattle.schema_print.proofs.unprintable.add_shapeless.Goals as goal

pub loop-id-init : goal.loop-id-init
loop-id-init g c = gathers_begun _ _ _ refl

pub loop-id-preserved : goal.loop-id-preserved
loop-id-preserved g c =
    let name = c.args.name.now in
    let before = map components_of c.loop-id.names.items in
    let it = c.loop-id-item.result in
    gathers_round (if_wanted (is_shapeless it.1) (declared_in name it.0.id.text))
    (c.in_ok-add_name.ensures ∙ ap (λ b. before ++ if_wanted b (declared_in name it.0.id.text)) c.is_shapeless.ensures)
    c.loop-id.invariant
    (wanted_step (λ e. is_shapeless e.1) (λ e. declared_in name e.0.id.text) c.args.entity_types.now
    c.loop-id.id-index it c.loop-id-test.true c.loop-id-item.is)

pub returns : goal.returns
returns g c =
    gathers_ended c.loop-id.invariant
    (at_drop_all (shapeless_in c.args.name.now) c.args.entity_types.now c.loop-id.id-index c.loop-id-test.false)
