-- What it means that kinds are no sentence, and where.
use Rattle.std.specs.Prelude.{ℕ, List, ◌≤◌, ◌<◌, ◌+◌, length, take}
use Rattle.schema_syntax_grammar.specs.declared.token_kind.TokenKind.{TokenKind}
use Rattle.schema_syntax_grammar.specs.Grammar.{Sentence, Viable, IsExpected}

-- The first so many kinds begin a sentence, one more do not, all of them are none, and these may come next.
pub record IsFault (all kinds : List TokenKind) (place : ℕ) (list : List TokenKind) : Type 0 where
  pub within : place ≤ length kinds
  pub viable : Viable (take place kinds)
  pub stops : place < length kinds → Viable (take (place + 1) kinds) → ⊥
  pub no_sentence : Sentence kinds → ⊥
  pub expected : IsExpected all (take place kinds) list
