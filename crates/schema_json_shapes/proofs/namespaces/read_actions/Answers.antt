use Rattle.std.proofs.Common.{refl}
use Rattle.std.specs.Prelude.{codes}
use Rattle.serde_json.specs.View.{view}
use Rattle.schema_json_shapes.specs.Walk.{action, actions, key_demands}
use Rattle.schema_json_shapes.proofs.Objects.{each_asked, reads_entries}
use Rattle.schema_json_shapes.proofs.namespaces.read_actions.Goals as goal

pub returns : goal.returns
returns c = reads_entries c.read_map.result actions (codes "actions") (view c.args.value.now) _
    (record {
      only = record { on_null = refl; on_flag = refl; on_number = refl; on_string = λ s. refl; on_array = refl };
      items = refl;
      own = each_asked (key_demands actions) action;
    }) c.read_map.ensures
