-- Kinds of tokens are compared by their numbers.
use Rattle.std.proofs.Common.{◌≡◌, true, eqb, refl, List}
use Rattle.std.specs.List.{list_any}
use denote.Enum.Bare.{sameb, same_true, true_same}
use denote.Enum.Declared.{tag_of}
use Rattle.schema_syntax_grammar.specs.Grammar.{kind_number, same_kind}
use Rattle.schema_syntax_grammar.specs.declared.token_kind.TokenKind.{TokenKind}
use Rattle.schema_syntax_grammar.specs.declared.token_kind.TokenKind.TheVariants.{KwNamespace, KwEntity, KwExternal}
use Rattle.schema_syntax_grammar.specs.declared.token_kind.TokenKind.TheVariants.{KwIn, KwType, KwSet, KwAppliesTo}
use Rattle.schema_syntax_grammar.specs.declared.token_kind.TokenKind.TheVariants.{KwPrincipal, KwAction, KwResource}
use Rattle.schema_syntax_grammar.specs.declared.token_kind.TokenKind.TheVariants.{KwContext, KwTags, KwEnum, Identifier}
use Rattle.schema_syntax_grammar.specs.declared.token_kind.TokenKind.TheVariants.{StringLit, At, Comma, Semi, Colon}
use Rattle.schema_syntax_grammar.specs.declared.token_kind.TokenKind.TheVariants.{PathSep, LParen, RParen, LBrace}
use Rattle.schema_syntax_grammar.specs.declared.token_kind.TokenKind.TheVariants.{RBrace, LBracket, RBracket, Less}
use Rattle.schema_syntax_grammar.specs.declared.token_kind.TokenKind.TheVariants.{Greater, Question, Equals, End}
use Rattle.schema_syntax_grammar.specs.contracts.token_kind.TokenKind.{the_type}
use Rattle.schema_syntax_errors.specs.ExpectedText.{expects}

tag_number : (k : TokenKind) → tag_of the_type k ≡ kind_number k
tag_number KwNamespace = refl
tag_number KwEntity = refl
tag_number KwExternal = refl
tag_number KwIn = refl
tag_number KwType = refl
tag_number KwSet = refl
tag_number KwAppliesTo = refl
tag_number KwPrincipal = refl
tag_number KwAction = refl
tag_number KwResource = refl
tag_number KwContext = refl
tag_number KwTags = refl
tag_number KwEnum = refl
tag_number Identifier = refl
tag_number StringLit = refl
tag_number At = refl
tag_number Comma = refl
tag_number Semi = refl
tag_number Colon = refl
tag_number PathSep = refl
tag_number LParen = refl
tag_number RParen = refl
tag_number LBrace = refl
tag_number RBrace = refl
tag_number LBracket = refl
tag_number RBracket = refl
tag_number Less = refl
tag_number Greater = refl
tag_number Question = refl
tag_number Equals = refl
tag_number End = refl

pub same_test : (a b : TokenKind) → sameb the_type a b ≡ same_kind a b
same_test a b = λ i. eqb (tag_number a i) (tag_number b i)

pub same_tests : (ks : List TokenKind) (k : TokenKind) → list_any (λ j. sameb the_type j k) ks ≡ expects ks k
same_tests ks k = λ i. list_any (λ j. same_test j k i) ks

pub kinds_sound : (a b : TokenKind) → sameb the_type a b ≡ true → a ≡ b
kinds_sound a b h = same_true the_type tt a b h

pub kinds_themselves : (k : TokenKind) → sameb the_type k k ≡ true
kinds_themselves k = true_same the_type k k refl
