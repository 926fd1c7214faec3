use Rattle.std.proofs.Common.{refl}
use Rattle.schema_json_shapes.proofs.Made.{made_none}
use Rattle.schema_json_shapes.proofs.types.made.Goals as goal

pub returns-in_ok-type_name-in-None : goal.returns-in_ok-type_name-in-None
returns-in_ok-type_name-in-None c =
    let name = c.in_ok-type_name-in-None.type_name in
    made_none c.args.shape c.args.text.now _ c.in-None.is c.in_ok-type_name-in-None.ensures.0
    (name, c.in_ok-type_name-in-None.ensures.1, refl)
