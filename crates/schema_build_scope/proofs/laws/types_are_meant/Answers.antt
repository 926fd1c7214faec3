use Rattle.schema_build_scope.proofs.Known.{types_meant}
use Rattle.schema_build_scope.proofs.laws.types_are_meant.Goals as goal

pub returns : goal.returns
returns c = types_meant c.args.fragment.now c.args.table.now
