use Rattle.std.proofs.Common.{refl}
use Rattle.serde_json.specs.View.{view, members_view}
use Rattle.schema_json_shapes.specs.Walk.{namespace}
use Rattle.schema_json_shapes.specs.Shapes.{IsNamespace}
use Rattle.schema_json_shapes.proofs.Objects.{no_object, reads_object}
use Rattle.schema_json_shapes.proofs.namespaces.read_namespace.Goals as goal

pub returns-in-Some : goal.returns-in-Some
returns-in-Some c = reads_object c.read_members.result namespace c.args.key.now (view c.args.value.now)
    (members_view c.in-Some.members.now.entries) IsNamespace c.in-Some.ensures c.read_members.ensures

pub returns-in-None : goal.returns-in-None
returns-in-None c = no_object namespace c.args.key.now
    (record { on_null = refl; on_flag = refl; on_number = refl; on_string = λ s. refl; on_array = refl })
    (view c.args.value.now) c.wrong_type.result c.in-None.ensures c.wrong_type.ensures
