use Rattle.std.proofs.Common.{◌≡◌, length, sym, ap, ◌∙◌, arith}
use Rattle.std.proofs.lemmas.List.Sums.{prefix_len_is}
use Rattle.schema_syntax_tokens.specs.Steps.{is_unescaped}
use Rattle.schema_syntax_tokens.proofs.escapes.plain_len.Goals as goal

pub returns-then-byte-eq92 : goal.returns-then-byte-eq92
returns-then-byte-eq92 c = sym
    (prefix_len_is is_unescaped c.args.rest.now c.loop-at.at 0 (omega arith) c.loop-at.invariant
    (λ h. ap is_unescaped c.if-byte-eq92.true))

pub returns : goal.returns
returns c =
    let e : c.loop-at.at ≡ length c.args.rest.now = omega arith in
    sym (prefix_len_is is_unescaped c.args.rest.now c.loop-at.at 0 (omega arith) c.loop-at.invariant
    (λ h. absurd (omega arith)) ∙ e)
