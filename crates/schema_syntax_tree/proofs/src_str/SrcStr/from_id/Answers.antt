use Rattle.std.proofs.Common.{subst, sym}
use Rattle.schema_syntax_tokens.specs.Escapes.{Unescapes}
use Rattle.schema_syntax_tree.proofs.Plain.{id_stands}
use Rattle.schema_syntax_tree.specs.Lent.{same_value}
use Rattle.schema_syntax_tree.proofs.src_str.SrcStr.from_id.Goals as goal

pub invariant_of-result : goal.invariant_of-result
invariant_of-result c = (
  (
    c.args.word.now.text,
    ∣ subst (λ t. Unescapes t c.args.word.now.text)
        (sym c.as_str.ensures.word) (id_stands c.args.word.now.text c.args.word.now.word) ∣₁,
  ),
  tt,
)

pub returns : goal.returns
returns c = same_value c.as_str.result.now c.result-1.given.0.0 c.args.word.now.text c.result-1.given.0.1 ∣ subst
    (λ t. Unescapes t c.args.word.now.text) (sym c.as_str.ensures.word)
    (id_stands c.args.word.now.text c.args.word.now.word) ∣₁
