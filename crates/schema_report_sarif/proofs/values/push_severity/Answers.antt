use Rattle.json.specs.Print.{escape_byte}
use Rattle.schema_report_sarif.proofs.values.push_severity.Goals as goal

pub returns-in-Error : goal.returns-in-Error
unfolding escape_byte
returns-in-Error c = rw c.in-Error.is c.push.ensures

pub returns-in-Warning : goal.returns-in-Warning
unfolding escape_byte
returns-in-Warning c = rw c.in-Warning.is c.push-in-Warning.ensures
