use Rattle.schema_syntax_errors.specs.SameFaults.{tells}
use Rattle.schema_convert_errors.proofs.SameFaults.{faults_sound, faults_themselves}
use Rattle.schema_convert_errors.proofs.laws.schema_faults_by_value.Goals as goal

pub returns : goal.returns
returns c = tells faults_sound faults_themselves c.args.a.now c.args.b.now
