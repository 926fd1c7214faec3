use Rattle.std.proofs.Common.{arith}
use Rattle.std.proofs.lemmas.Grind.{common_steps}
use Rattle.cedar_identifiers.proofs.name_kind.NameKind.refuses.Goals as goal

pub returns-else-is_reserved : goal.returns-else-is_reserved
returns-else-is_reserved c = grind (arith, common_steps, c.is_cedar.ensures)
