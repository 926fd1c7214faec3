-- How deep brackets are nested.
use Rattle.std.specs.Prelude.{◌≡◌, ◌+◌, ◌<◌, ◌++◌, ℕ, Bool, true, false, List, [], ◌∷◌, if◌then◌else◌}
use Rattle.schema_syntax_grammar.specs.declared.token_kind.TokenKind.{TokenKind}
use Rattle.schema_syntax_grammar.specs.declared.token_kind.TokenKind.TheVariants.{LParen, LBrace, LBracket, Less}
use Rattle.schema_syntax_grammar.specs.declared.token_kind.TokenKind.TheVariants.{RParen, RBrace, RBracket, Greater}
use Rattle.schema_syntax.specs.declared.nesting.TheConstants.{DEEPEST}

-- an opening bracket
abbrev pub opens : TokenKind → Bool
opens LParen = true
opens LBrace = true
opens LBracket = true
opens Less = true
opens _ = false

-- a closing bracket
abbrev pub closes : TokenKind → Bool
closes RParen = true
closes RBrace = true
closes RBracket = true
closes Greater = true
closes _ = false

-- how many of the kinds are such
abbrev pub number_of : (TokenKind → Bool) → List TokenKind → ℕ
number_of is_such [] = 0
number_of is_such (kind ∷ kinds) = (if is_such kind then 1 else 0) + number_of is_such kinds

-- at some place, more than `DEEPEST` of the brackets before it are open
pub record IsTooDeep (kinds : List TokenKind) : Type 0 where
  pub front : List TokenKind
  pub rest : List TokenKind
  pub place : kinds ≡ front ++ rest
  pub deep : number_of closes front + DEEPEST < number_of opens front
