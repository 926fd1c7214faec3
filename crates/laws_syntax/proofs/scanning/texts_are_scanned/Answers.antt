use Rattle.laws_syntax.proofs.Scans.Scanned.{scanned}
use Rattle.laws_syntax.proofs.scanning.texts_are_scanned.Goals as goal

pub returns : goal.returns
returns c = scanned
