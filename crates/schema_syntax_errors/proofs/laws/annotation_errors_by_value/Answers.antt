use Rattle.schema_syntax_errors.specs.SameFaults.{tells}
use Rattle.schema_syntax_errors.proofs.SameParseErrors.{annotation_errors_sound, annotation_errors_themselves}
use Rattle.schema_syntax_errors.proofs.laws.annotation_errors_by_value.Goals as goal

pub returns : goal.returns
returns c = tells annotation_errors_sound annotation_errors_themselves c.args.a.now c.args.b.now
