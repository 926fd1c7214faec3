-- The grammar as a table: for each symbol the tokens that it may begin with, and what comes after them.
use Rattle.std.specs.Prelude.{List, [], ◌∷◌, Bool, true, false, Option, Some, None, if◌then◌else◌}
use Rattle.schema_syntax_grammar.specs.declared.token_kind.TokenKind.{TokenKind}
use Rattle.schema_syntax_grammar.specs.declared.token_kind.TokenKind.TheVariants.{KwNamespace, KwEntity, KwExternal}
use Rattle.schema_syntax_grammar.specs.declared.token_kind.TokenKind.TheVariants.{KwIn, KwType, KwSet, KwAppliesTo}
use Rattle.schema_syntax_grammar.specs.declared.token_kind.TokenKind.TheVariants.{KwPrincipal, KwAction, KwResource}
use Rattle.schema_syntax_grammar.specs.declared.token_kind.TokenKind.TheVariants.{KwContext, KwTags, KwEnum, StringLit}
use Rattle.schema_syntax_grammar.specs.declared.token_kind.TokenKind.TheVariants.{At, Comma, Semi, Colon, PathSep}
use Rattle.schema_syntax_grammar.specs.declared.token_kind.TokenKind.TheVariants.{LParen, RParen, LBrace, RBrace}
use Rattle.schema_syntax_grammar.specs.declared.token_kind.TokenKind.TheVariants.{LBracket, RBracket, Less, Greater}
use Rattle.schema_syntax_grammar.specs.declared.token_kind.TokenKind.TheVariants.{Question, Equals}
use Rattle.schema_syntax_grammar.specs.declared.symbol.Symbol.{Symbol}
use Rattle.schema_syntax_grammar.specs.declared.symbol.Symbol.TheVariants.{Token, Schema, Item, Decls, Decl}
use Rattle.schema_syntax_grammar.specs.declared.symbol.Symbol.TheVariants.{AnnotationTail, AfterNamespace, AfterEntity}
use Rattle.schema_syntax_grammar.specs.declared.symbol.Symbol.TheVariants.{EntityTail, AfterExternal, AfterAction}
use Rattle.schema_syntax_grammar.specs.declared.symbol.Symbol.TheVariants.{AfterType, Word, Ident, IdentsTail, Name}
use Rattle.schema_syntax_grammar.specs.declared.symbol.Symbol.TheVariants.{NamesTail, ParentsTail, ShapeTail, TagsTail}
use Rattle.schema_syntax_grammar.specs.declared.symbol.Symbol.TheVariants.{Strings, StringsTail, RefsTail, AppliesTail}
use Rattle.schema_syntax_grammar.specs.declared.symbol.Symbol.TheVariants.{Apps, AppsTail, ContextType, PathTail, Types}
use Rattle.schema_syntax_grammar.specs.declared.symbol.Symbol.TheVariants.{Paths, PathsTail, Refs, RefList, RefListTail}
use Rattle.schema_syntax_grammar.specs.declared.symbol.Symbol.TheVariants.{RefTail, RefStep, AnyType, SetTail, Record}
use Rattle.schema_syntax_grammar.specs.declared.symbol.Symbol.TheVariants.{Attrs, AttrsTail, Attr, Mark}
use Rattle.schema_syntax_grammar.specs.Grammar.{is_word_kind, is_ident, is_name_kind, same_kind}

-- which kinds a row is for
pub data Front : Type 0 where
  word : Front
  ident : Front
  name : Front
  one : TokenKind → Front

abbrev pub is_at : Front → TokenKind → Bool
is_at word k = is_word_kind k
is_at ident k = is_ident k
is_at name k = is_name_kind k
is_at (one j) k = same_kind j k

pub record Row : Type 0 where
  pub front : Front
  pub next : List Symbol

abbrev pub row : Front → List Symbol → Row
row f n = record { front = f; next = n }

-- what each symbol may begin with, and what comes then
abbrev pub rows : Symbol → List Row
rows (Token k) = row (one k) [] ∷ []
rows Schema = row (one At) (Word ∷ AnnotationTail ∷ Item ∷ Schema ∷ []) ∷ row (one KwNamespace)
    (AfterNamespace ∷ Schema ∷ []) ∷ row (one KwEntity) (AfterEntity ∷ Schema ∷ []) ∷ row (one KwExternal)
    (AfterExternal ∷ Schema ∷ []) ∷ row (one KwAction) (AfterAction ∷ Schema ∷ []) ∷ row (one KwType)
    (AfterType ∷ Schema ∷ []) ∷ []
rows Item = row (one At) (Word ∷ AnnotationTail ∷ Item ∷ []) ∷ row (one KwNamespace) (AfterNamespace ∷ []) ∷ row
    (one KwEntity) (AfterEntity ∷ []) ∷ row (one KwExternal) (AfterExternal ∷ []) ∷ row (one KwAction)
    (AfterAction ∷ []) ∷ row (one KwType) (AfterType ∷ []) ∷ []
rows Decls = row (one At) (Word ∷ AnnotationTail ∷ Decl ∷ Decls ∷ []) ∷ row (one KwEntity) (AfterEntity ∷ Decls ∷ [])
    ∷ row (one KwExternal) (AfterExternal ∷ Decls ∷ []) ∷ row (one KwAction) (AfterAction ∷ Decls ∷ []) ∷ row
    (one KwType) (AfterType ∷ Decls ∷ []) ∷ []
rows Decl = row (one At) (Word ∷ AnnotationTail ∷ Decl ∷ []) ∷ row (one KwEntity) (AfterEntity ∷ []) ∷ row
    (one KwExternal) (AfterExternal ∷ []) ∷ row (one KwAction) (AfterAction ∷ []) ∷ row (one KwType)
    (AfterType ∷ []) ∷ []
rows AnnotationTail = row (one LParen) (Token StringLit ∷ Token RParen ∷ []) ∷ []
rows AfterNamespace = row ident (PathTail ∷ Token LBrace ∷ Decls ∷ Token RBrace ∷ []) ∷ []
rows AfterEntity = row ident (IdentsTail ∷ EntityTail ∷ []) ∷ []
rows EntityTail = row (one KwIn) (Types ∷ ShapeTail ∷ TagsTail ∷ Token Semi ∷ []) ∷ row (one Equals)
    (Record ∷ TagsTail ∷ Token Semi ∷ []) ∷ row (one LBrace) (Attrs ∷ Token RBrace ∷ TagsTail ∷ Token Semi ∷ []) ∷ row
    (one KwTags) (AnyType ∷ Token Semi ∷ []) ∷ row (one KwEnum)
    (Token LBracket ∷ Strings ∷ Token RBracket ∷ Token Semi ∷ []) ∷ row (one Semi) [] ∷ []
rows AfterExternal = row (one KwEntity) (Ident ∷ IdentsTail ∷ ParentsTail ∷ Token Semi ∷ []) ∷ row (one KwAction)
    (Name ∷ NamesTail ∷ RefsTail ∷ Token Semi ∷ []) ∷ []
rows AfterAction = row name (NamesTail ∷ RefsTail ∷ AppliesTail ∷ Token Semi ∷ []) ∷ []
rows AfterType = row ident (Token Equals ∷ AnyType ∷ Token Semi ∷ []) ∷ []
rows Word = row word [] ∷ []
rows Ident = row ident [] ∷ []
rows IdentsTail = row (one Comma) (Ident ∷ IdentsTail ∷ []) ∷ []
rows Name = row name [] ∷ []
rows NamesTail = row (one Comma) (Name ∷ NamesTail ∷ []) ∷ []
rows ParentsTail = row (one KwIn) (Types ∷ []) ∷ []
rows ShapeTail = row (one Equals) (Record ∷ []) ∷ row (one LBrace) (Attrs ∷ Token RBrace ∷ []) ∷ []
rows TagsTail = row (one KwTags) (AnyType ∷ []) ∷ []
rows Strings = row (one StringLit) (StringsTail ∷ []) ∷ []
rows StringsTail = row (one Comma) (Strings ∷ []) ∷ []
rows RefsTail = row (one KwIn) (Refs ∷ []) ∷ []
rows AppliesTail = row (one KwAppliesTo) (Token LBrace ∷ Apps ∷ Token RBrace ∷ []) ∷ []
rows Apps = row (one KwPrincipal) (Token Colon ∷ Types ∷ AppsTail ∷ []) ∷ row (one KwResource)
    (Token Colon ∷ Types ∷ AppsTail ∷ []) ∷ row (one KwContext) (Token Colon ∷ ContextType ∷ AppsTail ∷ []) ∷ []
rows AppsTail = row (one Comma) (Apps ∷ []) ∷ []
rows ContextType = row ident (PathTail ∷ []) ∷ row (one LBrace) (Attrs ∷ Token RBrace ∷ []) ∷ []
rows PathTail = row (one PathSep) (Ident ∷ PathTail ∷ []) ∷ []
rows Types = row ident (PathTail ∷ []) ∷ row (one LBracket) (Paths ∷ Token RBracket ∷ []) ∷ []
rows Paths = row ident (PathTail ∷ PathsTail ∷ []) ∷ []
rows PathsTail = row (one Comma) (Paths ∷ []) ∷ []
rows Refs = row ident (RefTail ∷ []) ∷ row (one StringLit) [] ∷ row (one LBracket) (RefList ∷ Token RBracket ∷ []) ∷ []
rows RefList = row ident (RefTail ∷ RefListTail ∷ []) ∷ row (one StringLit) (RefListTail ∷ []) ∷ []
rows RefListTail = row (one Comma) (RefList ∷ []) ∷ []
rows RefTail = row (one PathSep) (RefStep ∷ []) ∷ []
rows RefStep = row ident (Token PathSep ∷ RefStep ∷ []) ∷ row (one StringLit) [] ∷ []
rows AnyType = row (one KwSet) (SetTail ∷ []) ∷ row ident (PathTail ∷ []) ∷ row (one LBrace)
    (Attrs ∷ Token RBrace ∷ []) ∷ []
rows SetTail = row (one Less) (AnyType ∷ Token Greater ∷ []) ∷ row (one PathSep) (Ident ∷ PathTail ∷ []) ∷ []
rows Record = row (one LBrace) (Attrs ∷ Token RBrace ∷ []) ∷ []
rows Attrs = row name (Mark ∷ Token Colon ∷ AnyType ∷ AttrsTail ∷ []) ∷ row (one At)
    (Word ∷ AnnotationTail ∷ Attr ∷ AttrsTail ∷ []) ∷ []
rows AttrsTail = row (one Comma) (Attrs ∷ []) ∷ []
rows Attr = row name (Mark ∷ Token Colon ∷ AnyType ∷ []) ∷ row (one At) (Word ∷ AnnotationTail ∷ Attr ∷ []) ∷ []
rows Mark = row (one Question) [] ∷ []

-- whether the symbol may stand for nothing
abbrev pub is_nullable : Symbol → Bool
is_nullable Schema = true
is_nullable Decls = true
is_nullable AnnotationTail = true
is_nullable IdentsTail = true
is_nullable NamesTail = true
is_nullable ParentsTail = true
is_nullable ShapeTail = true
is_nullable TagsTail = true
is_nullable Strings = true
is_nullable StringsTail = true
is_nullable RefsTail = true
is_nullable AppliesTail = true
is_nullable Apps = true
is_nullable AppsTail = true
is_nullable PathTail = true
is_nullable Paths = true
is_nullable PathsTail = true
is_nullable RefList = true
is_nullable RefListTail = true
is_nullable RefTail = true
is_nullable SetTail = true
is_nullable Attrs = true
is_nullable AttrsTail = true
is_nullable Mark = true
is_nullable _ = false

-- what comes after a token of the kind, by the first row for it
abbrev pub find : List Row → TokenKind → Option (List Symbol)
find [] k = None
find (r ∷ rs) k = if is_at r.front k then Some r.next else find rs k

-- what comes after a first token of the kind in the symbol
unfoldable pub after_front : Symbol → TokenKind → Option (List Symbol)
after_front x k = find (rows x) k
