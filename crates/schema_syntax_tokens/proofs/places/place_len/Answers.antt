use Rattle.std.proofs.Common.{◌≡◌, length, sym, ◌∙◌, arith}
use Rattle.std.proofs.lemmas.List.Sums.{prefix_len_is}
use Rattle.schema_syntax_tokens.specs.Escapes.{is_place}
use Rattle.schema_syntax_tokens.proofs.places.place_len.Goals as goal

pub returns-then-not-is_place : goal.returns-then-not-is_place
returns-then-not-is_place c = sym
    (prefix_len_is is_place c.args.rest.now c.loop-at.at 0 (omega arith) c.loop-at.invariant (λ h. cc))

pub returns : goal.returns
returns c =
    let e : c.loop-at.at ≡ length c.args.rest.now = omega arith in
    sym (prefix_len_is is_place c.args.rest.now c.loop-at.at 0 (omega arith) c.loop-at.invariant
    (λ h. absurd (omega arith)) ∙ e)
