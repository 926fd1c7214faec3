use Rattle.laws_report.proofs.Logs.{log_read}
use Rattle.laws_report.proofs.laws.logs_are_read.Goals as goal

pub returns : goal.returns
returns c = log_read
