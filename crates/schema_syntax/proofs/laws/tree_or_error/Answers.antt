use Rattle.schema_syntax.proofs.TreeOrError.{apart}
use Rattle.schema_syntax.proofs.laws.tree_or_error.Goals as goal

pub returns : goal.returns
returns c = apart c.faulty_or_sentence.ensures c.one_scan.ensures c.one_syntax.ensures
