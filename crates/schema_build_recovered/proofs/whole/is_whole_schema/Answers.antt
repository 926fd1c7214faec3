use Rattle.schema_build_recovered.proofs.NoLack.{items_whole}
use Rattle.schema_build_recovered.proofs.whole.is_whole_schema.Goals as goal

pub returns-then-entity_types_are_whole : goal.returns-then-entity_types_are_whole
returns-then-entity_types_are_whole c h =
    items_whole c.args.entities.now c.args.actions.now
    (c.entity_types_are_whole.ensures c.if-entity_types_are_whole.true) (c.actions_are_whole.ensures h)
