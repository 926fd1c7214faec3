use Rattle.std.proofs.Common.{refl}
use Rattle.std.specs.Prelude.{codes}
use Rattle.serde_json.specs.View.{view, items_view}
use Rattle.schema_json_shapes.specs.Walk.{action_ids}
use Rattle.schema_json_shapes.specs.Said.{IsList}
use Rattle.schema_compat_shapes.specs.OldParts.{IsOldActionId}
use Rattle.schema_json_shapes.proofs.Objects.{no_array, reads_array}
use Rattle.schema_compat_shapes.proofs.action_ids.read_parents.Goals as goal

pub returns-in-Some : goal.returns-in-Some
returns-in-Some c = reads_array c.read_action_ids.result action_ids (codes "memberOf") (view c.args.value.now)
    (items_view c.in-Some.items.now.items) (IsList IsOldActionId) c.in-Some.ensures c.read_action_ids.ensures

pub returns-in-None : goal.returns-in-None
returns-in-None c = no_array action_ids (codes "memberOf")
    (record { on_null = refl; on_flag = refl; on_number = refl; on_string = λ s. refl; on_object = λ ms. refl })
    (view c.args.value.now) c.wrong_type.result c.in-None.ensures c.wrong_type.ensures
