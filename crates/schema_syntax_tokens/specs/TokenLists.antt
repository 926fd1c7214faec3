-- The kinds of tokens, and the place of all of them.
use Rattle.std.specs.Prelude.{ℕ, max, List, [], ◌∷◌, map}
use Rattle.cedar_data.specs.Span.{Span}
use Rattle.schema_syntax_grammar.specs.declared.token_kind.TokenKind.{TokenKind}
use Rattle.schema_syntax_tokens.specs.declared.token.Token.{Token}

-- the kinds of the tokens
abbrev pub kinds_of : List Token → List TokenKind
kinds_of tokens = map (λ t. t.kind) tokens

-- where the last token ends, behind a first one
abbrev pub end_of : Token → List Token → ℕ
end_of t [] = t.loc.end
end_of t (s ∷ u) = end_of s u

-- From the first token through the last. The tokens of a text follow each other, so the greater number is the end of
-- the last.
abbrev pub whole_place : List Token → Span
whole_place [] = record { start = 0; end = 0 }
whole_place (t ∷ u) = record { start = t.loc.start; end = max t.loc.start (end_of t u) }
