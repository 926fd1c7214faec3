use Rattle.schema_build.proofs.Schemas.{entities_within, actions_within, entities_held, actions_held, schema_built}
use Rattle.schema_build.proofs.schema.ValidatorSchema.from_schema_frag.Goals as goal

pub entity_types-requires : goal.entity_types-requires
entity_types-requires c =
    entities_within c.args.fragment c.args.table.now c.in_ok-entities.field-0 c.in_ok-entities.ensures.parts
    c.deref.result.now c.deref.ensures.value

pub actions-requires : goal.actions-requires
actions-requires c =
    actions_within c.args.fragment c.args.table.now c.in_ok-entities.field-0 c.in_ok-entities.ensures.parts
    c.deref-2.result.now c.deref-2.ensures.value

pub invariant_of-result : goal.invariant_of-result
invariant_of-result c =
    let f = c.args.fragment in
    let p = c.in_ok-entities.field-0 in
    let are = c.in_ok-entities.ensures.parts in (
      (c.in_ok-entity_types.ensures f c.args.table.now
          (entities_held f c.args.table.now p are c.deref.result.now c.deref.ensures.value)).0,
      (c.in_ok-actions.ensures f c.args.table.now
          (actions_held f c.args.table.now p are c.deref-2.result.now c.deref-2.ensures.value)).0,
    )

pub returns-clause-built : goal.returns-clause-built
returns-clause-built c =
    let f = c.args.fragment in
    let p = c.in_ok-entities.field-0 in
    let are = c.in_ok-entities.ensures.parts in
    schema_built f c.args.table.now c.in_ok-entity_types.entity_types.items c.in_ok-actions.actions.items
    c.common_types_are_declared_once.ensures
    (c.in_ok-entity_types.ensures f c.args.table.now
    (entities_held f c.args.table.now p are c.deref.result.now c.deref.ensures.value))
    (c.in_ok-actions.ensures f c.args.table.now
    (actions_held f c.args.table.now p are c.deref-2.result.now c.deref-2.ensures.value))
