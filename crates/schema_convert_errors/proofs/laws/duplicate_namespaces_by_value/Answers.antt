use Rattle.schema_syntax_errors.specs.SameFaults.{tells}
use Rattle.schema_convert_errors.proofs.SameFaults.{namespaces_sound, namespaces_themselves}
use Rattle.schema_convert_errors.proofs.laws.duplicate_namespaces_by_value.Goals as goal

pub returns : goal.returns
returns c = tells namespaces_sound namespaces_themselves c.args.a.now c.args.b.now
