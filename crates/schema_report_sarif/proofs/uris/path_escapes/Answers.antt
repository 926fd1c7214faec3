use Rattle.schema_report_sarif.proofs.UriLemmas.{escapes_checked}
use Rattle.schema_report_sarif.proofs.uris.path_escapes.Goals as goal

pub returns : goal.returns
returns c = escapes_checked
