use Rattle.laws_report.proofs.Back.{one_line}
use Rattle.laws_report.proofs.laws.one_report_a_line.Goals as goal

pub returns : goal.returns
returns c = one_line
