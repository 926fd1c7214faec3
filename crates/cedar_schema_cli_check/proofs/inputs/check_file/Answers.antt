use Rattle.std.proofs.lemmas.Result.{IfOk-weaker}
use Rattle.cedar_schema_cli_check.proofs.inputs.check_file.Goals as goal

pub returns-clause-status : goal.returns-clause-status
returns-clause-status g c =
    IfOk-weaker c.check_given.result _ _ (λ status adds. (c.in_ok-given.given, c.in_ok-given.ensures.given, adds))
    c.check_given.ensures
