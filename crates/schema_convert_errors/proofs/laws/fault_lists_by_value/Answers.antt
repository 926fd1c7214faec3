use Rattle.schema_syntax_errors.specs.SameFaults.{tells}
use Rattle.schema_convert_errors.proofs.SameFaults.{lists_sound, lists_themselves}
use Rattle.schema_convert_errors.proofs.laws.fault_lists_by_value.Goals as goal

pub returns : goal.returns
returns c = tells lists_sound lists_themselves c.args.a.now c.args.b.now
