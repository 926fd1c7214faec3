use Rattle.schema_syntax_errors.specs.SameFaults.{tells}
use Rattle.schema_convert_errors.proofs.SameFaults.{warnings_sound, warnings_themselves}
use Rattle.schema_convert_errors.proofs.laws.warnings_by_value.Goals as goal

pub returns : goal.returns
returns c = tells warnings_sound warnings_themselves c.args.a.now c.args.b.now
