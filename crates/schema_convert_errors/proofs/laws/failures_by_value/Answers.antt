use Rattle.schema_syntax_errors.specs.SameFaults.{tells}
use Rattle.schema_convert_errors.proofs.SameFaults.{failures_sound, failures_themselves}
use Rattle.schema_convert_errors.proofs.laws.failures_by_value.Goals as goal

pub returns : goal.returns
returns c = tells failures_sound failures_themselves c.args.a.now c.args.b.now
