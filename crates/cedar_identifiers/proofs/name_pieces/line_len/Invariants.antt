use Rattle.std.proofs.Common.{◌≡◌, ℕ, ◌<◌, true, get_or}
use Rattle.cedar_data.specs.Words.{is_in_line}
use Rattle.cedar_identifiers.proofs.name_pieces.line_len.Given as goal

abbrev pub invariant-loop-i : goal.invariant-loop-i
invariant-loop-i l = (k : ℕ) → k < l.i → is_in_line (get_or l.bytes k 0) ≡ true
