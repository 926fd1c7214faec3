use Rattle.schema_syntax_tokens.proofs.Digits.{HasDigits}
use Rattle.schema_syntax_tokens.proofs.places.places_value.Given as goal

abbrev pub invariant-loop-at : goal.invariant-loop-at
invariant-loop-at l = HasDigits l.places l.at l.digits l.value
