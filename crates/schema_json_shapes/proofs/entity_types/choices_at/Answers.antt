use Rattle.serde_json.specs.View.{view}
use Rattle.schema_json_shapes.proofs.EntityKinds.{not_empty}
use Rattle.schema_json_shapes.proofs.entity_types.choices_at.Goals as goal

pub read_enum-requires : goal.read_enum-requires
read_enum-requires c = not_empty _ (view c.in-Some.value.now) c.in-Some.ensures c.requires
