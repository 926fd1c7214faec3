use Rattle.std.proofs.Common.{◌≡◌, ◌++◌, take}
use Rattle.schema_text_reports.specs.FaultReports.{warning_reports}
use Rattle.schema_text_reports.proofs.reports.push_warnings.Given as goal

abbrev pub invariant-loop-warning : goal.invariant-loop-warning
invariant-loop-warning l =
    l.reports.items ≡ l.initial.reports.items ++ warning_reports l.lines.text (take l.warning-index l.warnings)
