use Rattle.schema_syntax_errors.specs.SameFaults.{tells}
use Rattle.schema_convert_errors.proofs.SameFaults.{absences_sound, absences_themselves}
use Rattle.schema_convert_errors.proofs.laws.missing_or_empty_by_value.Goals as goal

pub returns : goal.returns
returns c = tells absences_sound absences_themselves c.args.a.now c.args.b.now
