-- What stands in a string as it is.
use Rattle.std.specs.Prelude.{ℕ, Bool, not, ◌&&◌, nat_lt}
use Rattle.schema_syntax_tokens.specs.Quotes.{is_escaped}

-- a character of one byte that is not escaped
abbrev pub is_plain : ℕ → Bool
is_plain b = nat_lt b 128 && not (is_escaped b)
