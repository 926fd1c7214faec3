use Rattle.std.specs.Ordering.{Ordering-set}
use Rattle.std.proofs.Math.Logic.{∥∥₁_elim}
use Rattle.schema_syntax_tree.proofs.src_str.SrcStrOrd.cmp.Goals as goal

pub returns : goal.returns
returns c =
    ∥∥₁_elim c.raw.ensures (Ordering-set _ _)
    (λ h. ∥∥₁_elim c.raw-2.ensures (Ordering-set _ _) (λ k. c.cmp_values.ensures c.args.self.now c.args.other.now h k))
