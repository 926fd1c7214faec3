use Rattle.std.proofs.Math.Logic.{∥∥₁_elim}
use Rattle.std.specs.Coded.{Coded-set}
use Rattle.schema_syntax_tree.proofs.src_str.SrcStrHash.hash.Goals as goal

-- a hasher's state is told from another
pub returns : goal.returns
returns g c = ∥∥₁_elim c.raw.ensures (Coded-set g.row.H.coded _ _) (λ h. c.feed_value.ensures c.args.self.now h)
