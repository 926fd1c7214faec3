use Rattle.std.proofs.Common.{refl}
use Rattle.std.specs.Prelude.{codes}
use Rattle.serde_json.specs.View.{view}
use Rattle.schema_json_shapes.specs.Walk.{texts}
use Rattle.schema_json_shapes.proofs.Objects.{no_array}
use Rattle.schema_json_shapes.proofs.entity_types.read_enum.Goals as goal

pub returns-in-None : goal.returns-in-None
returns-in-None c = no_array texts (codes "enum")
    (record { on_null = refl; on_flag = refl; on_number = refl; on_string = λ s. refl; on_object = λ ms. refl })
    (view c.args.value.now) c.wrong_type.result c.in-None.ensures c.wrong_type.ensures
