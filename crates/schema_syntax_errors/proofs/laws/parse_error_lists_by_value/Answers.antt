use Rattle.schema_syntax_errors.specs.SameFaults.{tells}
use Rattle.schema_syntax_errors.proofs.SameParseErrors.{lists_sound, lists_themselves}
use Rattle.schema_syntax_errors.proofs.laws.parse_error_lists_by_value.Goals as goal

pub returns : goal.returns
returns c = tells lists_sound lists_themselves c.args.a.now c.args.b.now
