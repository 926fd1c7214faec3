use Rattle.std.proofs.Common.{◌∙◌, sym, subst, Ok}
use Rattle.cedar_schema_core_faults.specs.declared.recover_error.RecoverError.TheVariants.{Parse}
use Rattle.schema_convert_errors.specs.declared.error_list.CedarSchemaParseErrors.TheVariants.{SyntaxError}
use Rattle.cedar_runs.specs.declared.status.Status.TheVariants.{Refused}
use Rattle.schema_report.specs.Lines.{AreLineStarts}
use Rattle.schema_syntax.specs.ParseAnswers.{IsRefusalOf}
use Rattle.schema_syntax_errors.specs.declared.parse_schema_error.ParseSchemaError.TheVariants.{Errors}
use Rattle.schema_text_reports.specs.FaultReports.{fault_reports}
use Rattle.cedar_schema_cli_sheets.specs.Sheets.{items_of}
use Rattle.cedar_schema_cli_format.specs.Formatting.{Follows}
use Rattle.cedar_schema_cli_format.specs.Plans.{IsOutcome, faulty, refused}
use Rattle.cedar_schema_cli_format.proofs.Outcomes.{on_ok}
use Rattle.cedar_schema_cli_format.proofs.inputs.take_refused.Goals as goal

pub returns : goal.returns
returns c =
    let name = c.args.name.now in
    let lines = c.in_ok-lines.lines in
    let same = c.in_ok-lines.ensures.0 in
    let reports = fault_reports lines.text (Parse (SyntaxError c.args.errors)) in
    let told = c.deref.ensures.value ∙ c.in_ok-reports.ensures in
    on_ok c.take_reports.result _ _ (λ follows. record {
      outcome = faulty (items_of name lines reports) Refused;
      comes = subst (λ t. IsOutcome name (Ok t) (faulty (items_of name lines reports) Refused)) same
          (refused (subst (λ t. AreLineStarts t lines.starts) (sym same) c.in_ok-lines.ensures.1)
          (subst (λ t. IsRefusalOf t (Errors c.args.errors)) (sym same) c.requires));
      follows = subst (λ rs. Follows name (faulty (items_of name lines rs) Refused) c.args.run.now
          c.take_reports.new.self) told follows;
    }) c.take_reports.ensures
