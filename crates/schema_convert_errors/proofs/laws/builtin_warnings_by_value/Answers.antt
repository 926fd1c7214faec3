use Rattle.schema_syntax_errors.specs.SameFaults.{tells}
use Rattle.schema_convert_errors.proofs.SameFaults.{builtins_sound, builtins_themselves}
use Rattle.schema_convert_errors.proofs.laws.builtin_warnings_by_value.Goals as goal

pub returns : goal.returns
returns c = tells builtins_sound builtins_themselves c.args.a.now c.args.b.now
