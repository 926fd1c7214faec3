use Rattle.schema_syntax_errors.specs.SameFaults.{tells}
use Rattle.schema_convert_errors.proofs.SameFaults.{declarations_sound, declarations_themselves}
use Rattle.schema_convert_errors.proofs.laws.duplicate_declarations_by_value.Goals as goal

pub returns : goal.returns
returns c = tells declarations_sound declarations_themselves c.args.a.now c.args.b.now
