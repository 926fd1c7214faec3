use Rattle.std.proofs.Common.{map, refl, ap, ◌∙◌, ◌++◌}
use Rattle.std.proofs.lemmas.List.{at_drop_all}
use Rattle.cedar_identifiers.specs.Names.{components_of}
use Rattle.cedar_identifiers.specs.declared.unreserved_id.UnreservedId.{UnreservedId}
use Rattle.schema_print.specs.Collisions.{if_wanted, declared_in, names_entity_type, named_twice}
use Rattle.schema_print.proofs.Wanted.{gathers_begun, gathers_round, gathers_ended, wanted_step}
use Rattle.schema_print.proofs.unprintable.add_repeated.Goals as goal

pub loop-id-init : goal.loop-id-init
loop-id-init g c = gathers_begun _ _ _ refl

pub loop-id-preserved : goal.loop-id-preserved
loop-id-preserved g c =
    let name = c.args.name.now in
    let types = c.args.namespace.now.entity_types in
    let before = map components_of c.loop-id.names.items in
    let u = c.as_unreserved-id.result.now in
    gathers_round (if_wanted (names_entity_type types c.loop-id-item.result.0.id.id.text)
    (declared_in name c.loop-id-item.result.0.id.id.text))
    (c.in_ok-add_name.ensures ∙ (ap (λ b. before ++ if_wanted b (declared_in name u.id.text)) c.is_entity_type.ensures
    ∙ ap (λ (x : UnreservedId). before ++ if_wanted (names_entity_type types x.id.text) (declared_in name x.id.text))
    c.as_unreserved-id.ensures))
    c.loop-id.invariant
    (wanted_step (λ e. names_entity_type types e.0.id.id.text) (λ e. declared_in name e.0.id.id.text)
    c.as_slice-id-items.result.now c.loop-id.id-index c.loop-id-item.result c.loop-id-test.true c.loop-id-item.is)

pub returns : goal.returns
returns g c =
    let name = c.args.name.now in
    let types = c.args.namespace.now.entity_types in
    gathers_ended c.loop-id.invariant
    (at_drop_all (λ cs. map (λ e. declared_in name e.0.id.id.text) (named_twice types cs))
    c.as_slice-id-items.result.now c.loop-id.id-index c.loop-id-test.false)
    ∙ ap (λ cs. map components_of c.args.names.now.items
    ++ map (λ e. declared_in name e.0.id.id.text) (named_twice types cs)) c.as_slice-id-items.ensures.entries
