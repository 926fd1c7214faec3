use Rattle.schema_syntax_errors.specs.SameFaults.{tells}
use Rattle.schema_convert_errors.proofs.SameFaults.{second_roles_sound, second_roles_themselves}
use Rattle.schema_convert_errors.proofs.laws.duplicate_roles_by_value.Goals as goal

pub returns : goal.returns
returns c = tells second_roles_sound second_roles_themselves c.args.a.now c.args.b.now
