-- A text that is written as a string is text again.
use Rattle.std.proofs.Common.{◌≡◌, ℕ, true, List, [], ◌∷◌, ◌++◌, arith}
use Rattle.std.specs.Str.{IsUtf8, all_scalars}
use Rattle.std.proofs.lemmas.Str.{IsUtf8-append, IsUtf8-from_ascii}
use Rattle.std.proofs.lemmas.Str.Ascii.{IsAscii-cons, IsAscii-nil}
use Rattle.schema_syntax_tokens.specs.Quotes.{quoted_body, quoted}
use Rattle.schema_syntax_tokens.proofs.Quoting.{IsUtf8-quoted_body}

quote : IsUtf8 (34 ∷ [])
quote = IsUtf8-from_ascii (34 ∷ []) (IsAscii-cons 34 [] (omega arith) IsAscii-nil)

-- a string is text
pub quoted_utf8 : (cs : List ℕ) → all_scalars cs ≡ true → IsUtf8 (quoted cs)
quoted_utf8 cs h = IsUtf8-append (34 ∷ []) (quoted_body cs ++ 34 ∷ []) quote
    (IsUtf8-append (quoted_body cs) (34 ∷ []) (IsUtf8-quoted_body cs h) quote)
