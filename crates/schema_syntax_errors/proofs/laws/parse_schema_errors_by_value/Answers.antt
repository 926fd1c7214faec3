use Rattle.schema_syntax_errors.specs.SameFaults.{tells}
use Rattle.schema_syntax_errors.proofs.SameParseErrors.{schema_errors_sound, schema_errors_themselves}
use Rattle.schema_syntax_errors.proofs.laws.parse_schema_errors_by_value.Goals as goal

pub returns : goal.returns
returns c = tells schema_errors_sound schema_errors_themselves c.args.a.now c.args.b.now
