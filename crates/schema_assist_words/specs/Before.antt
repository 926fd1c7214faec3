-- What stands before a place of a text: the word that is being written there, and the tokens in front of it.
use Rattle.std.specs.Prelude.{◌≡◌, ℕ, true, ◌⊎◌, List, [], ◌∷◌, ◌++◌, length, take, slice_range}
use Rattle.std.specs.Str.{IsCharBoundary}
use Rattle.cedar_data.specs.Span.{Span}
use Rattle.schema_syntax_grammar.specs.Grammar.{is_word_kind, Viable}
use Rattle.schema_syntax_tokens.specs.declared.token.Token.{Token}
use Rattle.schema_syntax_tokens.specs.Forms.{IsWord}
use Rattle.schema_syntax_tokens.specs.Scans.{Scans}
use Rattle.schema_syntax_tokens.specs.TokenLists.{kinds_of}

-- the last of the tokens is a word, and ends here
pub record IsWordBefore (tokens : List Token) (end : ℕ) (front : List Token) (last : Token) : Type 0 where
  pub split : tokens ≡ front ++ last ∷ []
  pub word : is_word_kind last.kind ≡ true
  pub ends : last.loc.end ≡ end

-- The place of the partial word of a head: of its last token, where that is a word that ends where the head does; else
-- the end of the head.
pub data IsPartialWord (head : List ℕ) : Span → Type 0 where
  a_word : (tokens front : List Token) (last : Token) (stop : ℕ) → Scans head tokens stop
      → IsWordBefore tokens (length head) front last → IsPartialWord head last.loc
  no_word : (tokens : List Token) (stop : ℕ) → Scans head tokens stop
      → ((front : List Token) (last : Token) → IsWordBefore tokens (length head) front last → ⊥)
      → IsPartialWord head (record { start = length head; end = length head })

-- The tokens before the partial word at the place: the text has them up to the word, and some schema begins with them.
pub record StandBefore (text : List ℕ) (at : ℕ) (partial : Span) (front : List Token) : Type 0 where
  pub place : IsCharBoundary text at
  pub partial_word : IsPartialWord (take at text) partial
  pub scans : Scans (take partial.start text) front partial.start
  pub viable : Viable (kinds_of front)

-- the place lies in the text, between characters, and nothing or a word stands there
pub record IsWrittenWord (text : List ℕ) (partial : Span) : Type 0 where
  pub start : IsCharBoundary text partial.start
  pub stop : IsCharBoundary text partial.end
  pub word : (slice_range text partial.start partial.end ≡ []) ⊎ IsWord (slice_range text partial.start partial.end)
