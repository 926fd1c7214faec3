use Rattle.laws_syntax.proofs.Scans.FirstFault.{sentence_or_fault}
use Rattle.laws_syntax.proofs.scanning.kinds_have_a_fault_or_none.Goals as goal

pub returns : goal.returns
returns c = sentence_or_fault
