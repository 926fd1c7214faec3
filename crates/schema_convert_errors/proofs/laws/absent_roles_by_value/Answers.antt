use Rattle.schema_syntax_errors.specs.SameFaults.{tells}
use Rattle.schema_convert_errors.proofs.SameFaults.{absent_roles_sound, absent_roles_themselves}
use Rattle.schema_convert_errors.proofs.laws.absent_roles_by_value.Goals as goal

pub returns : goal.returns
returns c = tells absent_roles_sound absent_roles_themselves c.args.a.now c.args.b.now
