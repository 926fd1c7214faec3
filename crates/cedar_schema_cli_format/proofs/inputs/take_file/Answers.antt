use Rattle.cedar_schema_cli_format.proofs.Outcomes.{on_ok}
use Rattle.cedar_schema_cli_format.proofs.inputs.take_file.Goals as goal

pub returns-clause-takes : goal.returns-clause-takes
returns-clause-takes g c = on_ok c.take_given.result _ _ (λ takes. record {
  given = c.in_ok-given.given;
  read = c.in_ok-given.ensures.given;
  takes = takes;
}) c.take_given.ensures
