use Rattle.std.proofs.Common.{rules}
use Rattle.schema_json_shapes.proofs.leaves.flag_at.Goals as goal

pub returns-in-None : goal.returns-in-None
returns-in-None c = search rules
