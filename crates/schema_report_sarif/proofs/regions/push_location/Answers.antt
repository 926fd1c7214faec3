use Rattle.schema_report_sarif.proofs.regions.push_location.Goals as goal

pub returns-in-Some : goal.returns-in-Some
returns-in-Some c = rw c.in-Some.is c.push_told.ensures

pub returns-in-None : goal.returns-in-None
returns-in-None c = rw c.in-None.is c.push_plain.ensures
