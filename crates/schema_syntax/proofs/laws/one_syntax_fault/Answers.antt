use Rattle.schema_syntax.proofs.OneFault.{one_syntax_fault_from}
use Rattle.schema_syntax.proofs.laws.one_syntax_fault.Goals as goal

pub returns : goal.returns
returns c = λ text. one_syntax_fault_from c.one_scan.ensures c.one_fault.ensures c.viable_fronts.ensures text
