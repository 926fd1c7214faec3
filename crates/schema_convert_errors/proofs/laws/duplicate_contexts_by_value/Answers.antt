use Rattle.schema_syntax_errors.specs.SameFaults.{tells}
use Rattle.schema_convert_errors.proofs.SameFaults.{contexts_sound, contexts_themselves}
use Rattle.schema_convert_errors.proofs.laws.duplicate_contexts_by_value.Goals as goal

pub returns : goal.returns
returns c = tells contexts_sound contexts_themselves c.args.a.now c.args.b.now
