use Rattle.schema_syntax_errors.specs.SameFaults.{tells}
use Rattle.schema_convert_errors.proofs.SameFaults.{entities_sound, entities_themselves}
use Rattle.schema_convert_errors.proofs.laws.entity_warnings_by_value.Goals as goal

pub returns : goal.returns
returns c = tells entities_sound entities_themselves c.args.a.now c.args.b.now
