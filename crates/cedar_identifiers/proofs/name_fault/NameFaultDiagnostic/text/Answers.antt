use Rattle.std.proofs.Common.{arith}
use Rattle.std.proofs.lemmas.Grind.{elements}
use Rattle.cedar_identifiers.proofs.name_fault.NameFaultDiagnostic.text.Goals as goal

pub returns-in-Reserved : goal.returns-in-Reserved
returns-in-Reserved c = grind (arith, elements)
