-- What was expected, in words.
use Rattle.std.specs.Prelude.{ℕ, Bool, not, ◌&&◌, List, ◌++◌, map, filter, codes, if◌then◌else◌}
use Rattle.std.specs.List.{list_any}
use Rattle.cedar_data.specs.Rows.{listed}
use Rattle.schema_syntax_grammar.specs.Grammar.{is_ident, same_kind}
use Rattle.schema_syntax_grammar.specs.declared.token_kind.TokenKind.{TokenKind}
use Rattle.schema_syntax_grammar.specs.declared.token_kind.TokenKind.TheVariants.{KwNamespace, KwEntity, KwExternal}
use Rattle.schema_syntax_grammar.specs.declared.token_kind.TokenKind.TheVariants.{KwIn, KwType, KwSet, KwAppliesTo}
use Rattle.schema_syntax_grammar.specs.declared.token_kind.TokenKind.TheVariants.{KwPrincipal, KwAction, KwResource}
use Rattle.schema_syntax_grammar.specs.declared.token_kind.TokenKind.TheVariants.{KwContext, KwTags, KwEnum, Identifier}
use Rattle.schema_syntax_grammar.specs.declared.token_kind.TokenKind.TheVariants.{StringLit, At, Comma, Semi, Colon}
use Rattle.schema_syntax_grammar.specs.declared.token_kind.TokenKind.TheVariants.{PathSep, LParen, RParen, LBrace}
use Rattle.schema_syntax_grammar.specs.declared.token_kind.TokenKind.TheVariants.{RBrace, LBracket, RBracket, Less}
use Rattle.schema_syntax_grammar.specs.declared.token_kind.TokenKind.TheVariants.{Greater, Question, Equals, End}

-- how a kind is named: a keyword or a mark stands in backquotes
abbrev pub kind_name : TokenKind → List ℕ
kind_name KwNamespace = codes "`namespace`"
kind_name KwEntity = codes "`entity`"
kind_name KwExternal = codes "`external`"
kind_name KwIn = codes "`in`"
kind_name KwType = codes "`type`"
kind_name KwSet = codes "`Set`"
kind_name KwAppliesTo = codes "`appliesTo`"
kind_name KwPrincipal = codes "`principal`"
kind_name KwAction = codes "`action`"
kind_name KwResource = codes "`resource`"
kind_name KwContext = codes "`context`"
kind_name KwTags = codes "`tags`"
kind_name KwEnum = codes "`enum`"
kind_name Identifier = codes "identifier"
kind_name StringLit = codes "string literal"
kind_name At = codes "`@`"
kind_name Comma = codes "`,`"
kind_name Semi = codes "`;`"
kind_name Colon = codes "`:`"
kind_name PathSep = codes "`::`"
kind_name LParen = codes "`(`"
kind_name RParen = codes "`)`"
kind_name LBrace = codes "`{`"
kind_name RBrace = codes "`}`"
kind_name LBracket = codes "`[`"
kind_name RBracket = codes "`]`"
kind_name Less = codes "`<`"
kind_name Greater = codes "`>`"
kind_name Question = codes "`?`"
kind_name Equals = codes "`=`"
kind_name End = codes "end of input"

-- the kind is among those expected
abbrev pub expects : List TokenKind → TokenKind → Bool
expects expected kind = list_any (λ k. same_kind k kind) expected

-- a keyword that may stand as an identifier: any but `in`
abbrev pub is_name_keyword : TokenKind → Bool
is_name_keyword kind = is_ident kind && not (same_kind kind Identifier)

-- the kinds that are named: without those keywords where an identifier is expected
abbrev pub printed : List TokenKind → List TokenKind
printed expected = if expects expected Identifier then filter (λ k. not (is_name_keyword k)) expected else expected

-- the names with `, ` between two, and ` or ` before the last
abbrev pub expected_text_of : List TokenKind → List ℕ
expected_text_of expected = codes "expected " ++ listed (codes ", ") (codes " or ") (map kind_name (printed expected))
