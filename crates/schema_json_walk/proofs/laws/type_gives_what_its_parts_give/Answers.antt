use Rattle.schema_json_walk.proofs.ByParts.{type_by_parts}
use Rattle.schema_json_walk.proofs.laws.type_gives_what_its_parts_give.Goals as goal

pub returns : goal.returns
returns g c = λ visit. type_by_parts visit c.args.ty.now
