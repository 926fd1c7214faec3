use Rattle.std.proofs.Common.{refl}
use Rattle.cedar_schema_cli.specs.Runs.{delivered, wanted_memory}
use Rattle.cedar_schema_cli.proofs.run.run_cli.Goals as goal

pub returns-in-Ok-clause-run : goal.returns-in-Ok-clause-run
returns-in-Ok-clause-run g c = delivered c.in-Ok.ensures.report c.deliver.ensures.delivered

pub returns-in-Err-clause-run : goal.returns-in-Err-clause-run
returns-in-Err-clause-run g c = wanted_memory c.in-Err.ensures.same refl refl
