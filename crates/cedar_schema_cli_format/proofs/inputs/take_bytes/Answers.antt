use Rattle.std.proofs.Common.{[], ◌∷◌, codes, subst, Ok, OnOk}
use Rattle.cedar_runs.specs.declared.status.Status.TheVariants.{NotText}
use Rattle.cedar_schema_cli_sheets.specs.Sheets.{fault_item}
use Rattle.cedar_schema_cli_format.specs.Formatting.{TakesGiven}
use Rattle.cedar_schema_cli_format.specs.Plans.{faulty, not_text}
use Rattle.cedar_schema_cli_format.proofs.Outcomes.{on_ok}
use Rattle.cedar_schema_cli_format.proofs.inputs.take_bytes.Goals as goal

pub returns-in-Ok : goal.returns-in-Ok
returns-in-Ok c =
    subst (λ t. OnOk c.take_text.result (TakesGiven c.args.name.now (Ok t) c.args.run.now c.take_text.new.run))
    c.in-Ok.ensures.cases.0 c.take_text.ensures

pub returns-in-Err : goal.returns-in-Err
returns-in-Err c = on_ok c.take_fault.result _ _ (λ follows. record {
  outcome = faulty (fault_item c.args.name.now (codes "the input is not UTF-8") ∷ []) NotText;
  comes = not_text c.in-Err.ensures.cases.0;
  follows = follows;
}) c.take_fault.ensures
