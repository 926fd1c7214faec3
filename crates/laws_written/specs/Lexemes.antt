-- The lexemes at the places of tokens.
use Rattle.std.specs.Prelude.{ℕ, List, [], ◌∷◌, slice_range}
use Rattle.schema_syntax_tokens.specs.declared.token.Token.{Token}
use Rattle.schema_syntax_tokens.specs.Laid.{Lexeme}

-- the kind of each token, with the bytes at its place
abbrev pub lexemes_at : List ℕ → List Token → List Lexeme
lexemes_at text [] = []
lexemes_at text (t ∷ ts) = record { kind = t.kind; text = slice_range text t.loc.start t.loc.end } ∷ lexemes_at text ts
