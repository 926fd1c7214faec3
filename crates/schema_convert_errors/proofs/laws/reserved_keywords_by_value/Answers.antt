use Rattle.schema_syntax_errors.specs.SameFaults.{tells}
use Rattle.schema_convert_errors.proofs.SameFaults.{keywords_sound, keywords_themselves}
use Rattle.schema_convert_errors.proofs.laws.reserved_keywords_by_value.Goals as goal

pub returns : goal.returns
returns c = tells keywords_sound keywords_themselves c.args.a.now c.args.b.now
