use Rattle.schema_syntax_errors.specs.SameFaults.{tells}
use Rattle.schema_convert_errors.proofs.SameFaults.{reserved_sound, reserved_themselves}
use Rattle.schema_convert_errors.proofs.laws.reserved_names_by_value.Goals as goal

pub returns : goal.returns
returns c = tells reserved_sound reserved_themselves c.args.a.now c.args.b.now
