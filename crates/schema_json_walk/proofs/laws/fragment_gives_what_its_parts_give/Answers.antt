use Rattle.schema_json_walk.proofs.ByParts.{fragment_by_parts}
use Rattle.schema_json_walk.proofs.laws.fragment_gives_what_its_parts_give.Goals as goal

pub returns : goal.returns
returns g c = λ visit. fragment_by_parts visit c.args.fragment.now
