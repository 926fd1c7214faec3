use Rattle.schema_syntax_errors.specs.SameFaults.{tells}
use Rattle.schema_convert_errors.proofs.SameFaults.{unknown_sound, unknown_themselves}
use Rattle.schema_convert_errors.proofs.laws.unknown_type_names_by_value.Goals as goal

pub returns : goal.returns
returns c = tells unknown_sound unknown_themselves c.args.a.now c.args.b.now
