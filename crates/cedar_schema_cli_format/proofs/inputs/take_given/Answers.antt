use Rattle.std.proofs.Common.{[], ◌∷◌, sym, subst, Ok, OnOk}
use Rattle.cedar_schema_cli_check.specs.Statuses.{fault_words, fault_status}
use Rattle.cedar_schema_cli_sheets.specs.Sheets.{fault_item}
use Rattle.cedar_schema_cli_format.specs.Formatting.{Follows, TakesGiven}
use Rattle.cedar_schema_cli_format.specs.Plans.{IsOutcome, faulty, unread}
use Rattle.cedar_schema_cli_format.proofs.Outcomes.{on_ok}
use Rattle.cedar_schema_cli_format.proofs.inputs.take_given.Goals as goal

pub returns-in-Ok : goal.returns-in-Ok
returns-in-Ok c =
    let name = c.args.name.now in
    let new = c.take_bytes.new.run in
    subst (λ given. OnOk c.take_bytes.result (TakesGiven name given c.args.run.now new)) (sym c.in-Ok.is)
    (subst (λ bytes. OnOk c.take_bytes.result (TakesGiven name (Ok bytes) c.args.run.now new)) c.as_slice.ensures
    c.take_bytes.ensures)

pub returns-in-Err : goal.returns-in-Err
returns-in-Err c =
    let name = c.args.name.now in
    let old = c.args.run.now in
    let new = c.take_fault.new.self in
    let outcome = faulty (fault_item name (fault_words c.in-Err.fault) ∷ []) (fault_status c.in-Err.fault) in
    on_ok c.take_fault.result _ _ (λ follows. record {
      outcome = outcome;
      comes = subst (λ given. IsOutcome name given outcome) (sym c.in-Err.is) unread;
      follows = subst (λ words. Follows name (faulty (fault_item name words ∷ []) (fault_status c.in-Err.fault)) old new)
          c.fault_words.ensures.words
          (subst (λ status. Follows name (faulty (fault_item name c.fault_words.result.now ∷ []) status) old new)
          c.fault_status.ensures follows);
    }) c.take_fault.ensures
