use Rattle.std.proofs.Common.{◌≡◌, take, false}
use Rattle.std.specs.List.{list_any}
use Rattle.schema_text_reports.specs.ReportReplies.{is_error}
use Rattle.cedar_schema_cli_check.proofs.statuses.reports_status.Given as goal

abbrev pub invariant-loop-report : goal.invariant-loop-report
invariant-loop-report l = list_any is_error (take l.report-index l.reports) ≡ false
