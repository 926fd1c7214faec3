use Rattle.laws_syntax.proofs.OneTree.OneError.{error_once}
use Rattle.laws_syntax.proofs.trees.one_error.Goals as goal

pub returns : goal.returns
returns c = error_once c.one_value.ensures.bad c.one_scan.ensures c.one_syntax.ensures c.one_syntax_fault.ensures
    c.faulty_or_sentence.ensures
