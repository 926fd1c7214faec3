use Rattle.std.proofs.Common.{[], ◌∷◌, sym, subst, Ok, IfOk}
use Rattle.cedar_schema_cli_sheets.specs.Says.{Gets}
use Rattle.cedar_schema_cli_sheets.specs.Sheets.{fault_item}
use Rattle.cedar_schema_cli_check.specs.Checking.{Adds}
use Rattle.cedar_schema_cli_check.specs.Checks.{IsChecked, unread}
use Rattle.cedar_schema_cli_check.specs.Statuses.{fault_words, fault_status}
use Rattle.cedar_schema_cli_check.proofs.inputs.check_given.Goals as goal

pub returns-in_ok-push_fault-in-Err : goal.returns-in_ok-push_fault-in-Err
returns-in_ok-push_fault-in-Err c =
    let table = c.args.table.now in
    let name = c.args.name.now in
    let items = fault_item name (fault_words c.in-Err.fault) ∷ [] in
    record {
      more = items;
      checked = subst (IsChecked table name c.args.given.now items) (sym c.fault_status.ensures)
          (subst (λ given. IsChecked table name given items (fault_status c.in-Err.fault)) (sym c.in-Err.is) unread);
      gets = subst (λ words. Gets c.args.sheet.now c.push_fault.new.self (fault_item name words ∷ []))
          c.fault_words.ensures.words c.in_ok-push_fault-in-Err.ensures;
    }

pub returns-in-Ok : goal.returns-in-Ok
returns-in-Ok c =
    let table = c.args.table.now in
    let name = c.args.name.now in
    let new = c.check_bytes.new.sheet in
    subst (λ given. IfOk c.check_bytes.result (Adds table name given c.args.sheet.now new)) (sym c.in-Ok.is)
    (subst (λ bytes. IfOk c.check_bytes.result (Adds table name (Ok bytes) c.args.sheet.now new)) c.as_slice.ensures
    c.check_bytes.ensures)
