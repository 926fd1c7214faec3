use Rattle.std.proofs.Common.{ap}
use Rattle.cedar_identifiers.proofs.Same.{id_same}
use Rattle.schema_syntax_tree.proofs.src_id.SrcId.again.Goals as goal

pub returns : goal.returns
returns c = id_same _ _ (ap (λ id. id.text) c.self.view_is)
