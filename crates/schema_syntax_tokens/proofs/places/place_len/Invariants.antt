use Rattle.std.proofs.Common.{◌≡◌, ℕ, ◌<◌, true, get_or}
use Rattle.schema_syntax_tokens.specs.Escapes.{is_place}
use Rattle.schema_syntax_tokens.proofs.places.place_len.Given as goal

abbrev pub invariant-loop-at : goal.invariant-loop-at
invariant-loop-at l = (k : ℕ) → k < l.at → is_place (get_or l.rest k 0) ≡ true
