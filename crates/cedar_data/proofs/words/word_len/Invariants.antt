use Rattle.std.proofs.Common.{◌≡◌, ℕ, ◌<◌, true, get_or}
use Rattle.cedar_data.specs.Words.{is_word_part}
use Rattle.cedar_data.proofs.words.word_len.Given as goal

abbrev pub invariant-loop-at : goal.invariant-loop-at
invariant-loop-at l = (k : ℕ) → k < l.at → is_word_part (get_or l.bytes k 0) ≡ true
