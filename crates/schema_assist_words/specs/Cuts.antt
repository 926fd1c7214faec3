-- A head without its partial word, as the code has it.
use Rattle.std.specs.Prelude.{◌≡◌, ℕ, ◌≤◌, List, length, take}
use Rattle.std.specs.List.{All}
use Rattle.cedar_data.specs.Span.{Span}
use Rattle.schema_syntax_grammar.specs.Grammar.{IsExpected, Viable}
use Rattle.schema_syntax_grammar.specs.declared.token_kind.TokenKind.{TokenKind}
use Rattle.schema_syntax_grammar.specs.declared.token_kind.TheConstants.{ALL_KINDS}
use Rattle.schema_syntax_tokens.specs.declared.token.Token.{Token}
use Rattle.schema_syntax_tokens.specs.Scans.{Scans, IsPlaced}
use Rattle.schema_assist_places.specs.declared.place.Standing.{Standing}
use Rattle.schema_assist_places.specs.Behind.{IsPlaceBehind}
use Rattle.schema_assist_words.specs.declared.text_before.AssistError.{AssistError}
use Rattle.schema_assist_words.specs.declared.text_before.AssistError.TheVariants.{BadPlace, Syntax, Memory}
use Rattle.schema_assist_words.specs.Before.{IsPartialWord, IsWrittenWord}
use Rattle.schema_assist_words.specs.Refusals.{IsHeadFault}

-- the head has this partial word, and these tokens in front of it, which stop there or before
pub record IsCutOf (head : List ℕ) (partial : Span) (front : List Token) (stop : ℕ) : Type 0 where
  pub partial_word : IsPartialWord head partial
  pub scans : Scans (take partial.start head) front stop
  pub placed : All (IsPlaced head) front
  pub before : stop ≤ partial.start
  pub within : partial.start ≤ length head
  pub word : IsWrittenWord head partial
  pub ends : partial.end ≡ length head

-- so for the start of the partial word
abbrev pub IsReadTo : List ℕ → List Token → ℕ → ℕ → Type 0
IsReadTo head front start stop = (partial : Span) × (partial.start ≡ start) × IsCutOf head partial front stop

-- some schema begins with these kinds, and this may stand behind them
pub record IsStandingBehind (kinds : List TokenKind) (standing : Standing) : Type 0 where
  pub viable : Viable kinds
  pub expected : IsExpected ALL_KINDS kinds standing.expected.items
  pub place : IsPlaceBehind kinds standing.place

-- the head has this fault, or memory is out
abbrev pub IsStandingRefusal : List ℕ → AssistError → Type 0
IsStandingRefusal head BadPlace = ⊥
IsStandingRefusal head (Syntax error) = IsHeadFault head error
IsStandingRefusal head Memory = Unit {0}
