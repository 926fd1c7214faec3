use Rattle.std.proofs.Common.{refl}
use Rattle.serde_json.specs.View.{view, members_view}
use Rattle.schema_json_shapes.specs.Walk.{entity_type}
use Rattle.schema_json_shapes.specs.Shapes.{IsEntityType}
use Rattle.schema_json_shapes.proofs.Objects.{no_object, reads_object}
use Rattle.schema_json_shapes.proofs.entity_types.read_entity_type.Goals as goal

pub returns-in-Some : goal.returns-in-Some
returns-in-Some c = reads_object c.read_members.result entity_type c.args.label.now (view c.args.value.now)
    (members_view c.in-Some.members.now.entries) IsEntityType c.in-Some.ensures c.read_members.ensures

pub returns-in-None : goal.returns-in-None
returns-in-None c = no_object entity_type c.args.label.now
    (record { on_null = refl; on_flag = refl; on_number = refl; on_string = λ s. refl; on_array = refl })
    (view c.args.value.now) c.wrong_type.result c.in-None.ensures c.wrong_type.ensures
