use Rattle.std.proofs.Common.{[], ◌∷◌, codes, subst, Ok, IfOk}
use Rattle.cedar_schema_cli_sheets.specs.Sheets.{fault_item}
use Rattle.cedar_schema_cli_check.specs.Checking.{Adds}
use Rattle.cedar_schema_cli_check.specs.Checks.{not_text}
use Rattle.cedar_schema_cli_check.proofs.inputs.check_bytes.Goals as goal

pub returns-in_ok-push_fault-in-Err : goal.returns-in_ok-push_fault-in-Err
returns-in_ok-push_fault-in-Err c = record {
  more = fault_item c.args.name.now (codes "the input is not UTF-8") ∷ [];
  checked = not_text c.in-Err.ensures.cases.0;
  gets = c.in_ok-push_fault-in-Err.ensures;
}

pub returns-in-Ok : goal.returns-in-Ok
returns-in-Ok c =
    subst (λ t. IfOk c.check_text.result
    (Adds c.args.table.now c.args.name.now (Ok t) c.args.sheet.now c.check_text.new.sheet)) c.in-Ok.ensures.cases.0
    c.check_text.ensures
