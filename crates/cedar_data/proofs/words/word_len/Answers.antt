use Rattle.std.proofs.Common.{◌≡◌, length, sym, ◌∙◌, arith}
use Rattle.std.proofs.lemmas.List.Sums.{prefix_len_is}
use Rattle.cedar_data.specs.Words.{is_word_part}
use Rattle.cedar_data.proofs.words.word_len.Goals as goal

pub returns-then-not-is_word_part : goal.returns-then-not-is_word_part
returns-then-not-is_word_part c =
    sym (prefix_len_is is_word_part c.args.bytes.now c.loop-at.at 0 (omega arith) c.loop-at.invariant (λ h. cc))

pub returns : goal.returns
returns c =
    let e : c.loop-at.at ≡ length c.args.bytes.now = omega arith in
    sym (prefix_len_is is_word_part c.args.bytes.now c.loop-at.at 0 (omega arith) c.loop-at.invariant
    (λ h. absurd (omega arith)) ∙ e)
