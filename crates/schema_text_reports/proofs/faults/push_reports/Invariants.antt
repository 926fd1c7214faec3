use Rattle.std.proofs.Common.{◌≡◌, ◌++◌, None, map}
use Rattle.cedar_data.specs.NonEmpty.{items_left}
use Rattle.schema_report.specs.Reports.{reported}
use Rattle.schema_text_reports.proofs.faults.push_reports.Given as goal

abbrev pub invariant-loop-fault : goal.invariant-loop-fault
invariant-loop-fault g l =
    let report = reported g.D.Diagnostic.severity g.D.Diagnostic.text g.D.Diagnostic.help g.D.Diagnostic.labels None
    l.lines.text in
    l.reports.items ++ map report (items_left l.fault-iterator) ≡ l.initial.reports.items ++ map report l.faults
