use Rattle.laws_report.proofs.Values.{report_read}
use Rattle.laws_report.proofs.laws.reports_are_read.Goals as goal

pub returns : goal.returns
returns c = report_read
