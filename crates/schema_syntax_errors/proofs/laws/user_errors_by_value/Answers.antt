use Rattle.schema_syntax_errors.specs.SameFaults.{tells, user_errors_sound, user_errors_themselves}
use Rattle.schema_syntax_errors.proofs.laws.user_errors_by_value.Goals as goal

pub returns : goal.returns
returns c = tells user_errors_sound user_errors_themselves c.args.a.now c.args.b.now
