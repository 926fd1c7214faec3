use Rattle.std.proofs.Common.{◌≡◌, nat_eq, ◌∙◌}
use Rattle.std.proofs.Math.Bool.{Bool-set}
use Rattle.std.proofs.Math.Logic.{∥∥₁_elim}
use Rattle.std.specs.Cmp.Lexicographic.{pointwise}
use Rattle.schema_syntax_tree.proofs.LentTexts.{same_tests}
use Rattle.schema_syntax_tree.proofs.src_str.SrcStrPartialEq.eq.Goals as goal

pub returns : goal.returns
returns c =
    let same : c.same_value.result ≡ pointwise nat_eq c.args.self.now c.args.other.now =
    ∥∥₁_elim c.raw.ensures (Bool-set _ _)
    (λ h. ∥∥₁_elim c.raw-2.ensures (Bool-set _ _) (λ k. c.same_value.ensures c.args.self.now c.args.other.now h k)) in
    same ∙ same_tests c.args.self.now c.args.other.now
