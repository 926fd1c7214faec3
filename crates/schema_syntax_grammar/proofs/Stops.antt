-- Finite facts about the table, by computation.
use Rattle.std.proofs.Common.{◌≡◌, ℕ, List, [], ◌∷◌, Bool, true, false, ◌&&◌, ◌||◌, Option, Some, None, refl, ap}
use Rattle.std.specs.Prelude.{nat_lt, is_some, not}
use Rattle.schema_syntax_grammar.specs.declared.token_kind.TokenKind.{TokenKind}
use Rattle.schema_syntax_grammar.specs.declared.token_kind.TokenKind.TheVariants.{KwNamespace, KwEntity, KwExternal}
use Rattle.schema_syntax_grammar.specs.declared.token_kind.TokenKind.TheVariants.{KwIn, KwType, KwSet, KwAppliesTo}
use Rattle.schema_syntax_grammar.specs.declared.token_kind.TokenKind.TheVariants.{KwPrincipal, KwAction, KwResource}
use Rattle.schema_syntax_grammar.specs.declared.token_kind.TokenKind.TheVariants.{KwContext, KwTags, KwEnum, Identifier}
use Rattle.schema_syntax_grammar.specs.declared.token_kind.TokenKind.TheVariants.{StringLit, At, Comma, Semi, Colon}
use Rattle.schema_syntax_grammar.specs.declared.token_kind.TokenKind.TheVariants.{PathSep, LParen, RParen, LBrace}
use Rattle.schema_syntax_grammar.specs.declared.token_kind.TokenKind.TheVariants.{RBrace, LBracket, RBracket, Less}
use Rattle.schema_syntax_grammar.specs.declared.token_kind.TokenKind.TheVariants.{Greater, Question, Equals, End}
use Rattle.schema_syntax_grammar.specs.declared.token_kind.TheConstants.{ALL_KINDS}
use Rattle.schema_syntax_grammar.specs.declared.symbol.Symbol.{Symbol}
use Rattle.schema_syntax_grammar.specs.declared.symbol.Symbol.TheVariants.{Token, Schema, Item, Decls, Decl}
use Rattle.schema_syntax_grammar.specs.declared.symbol.Symbol.TheVariants.{AnnotationTail, AfterNamespace, AfterEntity}
use Rattle.schema_syntax_grammar.specs.declared.symbol.Symbol.TheVariants.{EntityTail, AfterExternal, AfterAction}
use Rattle.schema_syntax_grammar.specs.declared.symbol.Symbol.TheVariants.{AfterType, Word, Ident, IdentsTail, Name}
use Rattle.schema_syntax_grammar.specs.declared.symbol.Symbol.TheVariants.{NamesTail, ParentsTail, ShapeTail, TagsTail}
use Rattle.schema_syntax_grammar.specs.declared.symbol.Symbol.TheVariants.{Strings, StringsTail, RefsTail, AppliesTail}
use Rattle.schema_syntax_grammar.specs.declared.symbol.Symbol.TheVariants.{Apps, AppsTail, ContextType, PathTail, Types}
use Rattle.schema_syntax_grammar.specs.declared.symbol.Symbol.TheVariants.{Paths, PathsTail, Refs, RefList, RefListTail}
use Rattle.schema_syntax_grammar.specs.declared.symbol.Symbol.TheVariants.{RefTail, RefStep, AnyType, SetTail, Record}
use Rattle.schema_syntax_grammar.specs.declared.symbol.Symbol.TheVariants.{Attrs, AttrsTail, Attr, Mark}
use Rattle.schema_syntax_grammar.specs.Table.{Row, rows, is_nullable, after_front}
use Rattle.schema_syntax_grammar.specs.Grammar.{same_kind}
use Rattle.schema_syntax_grammar.specs.Machine.{step, all_nullable}

abbrev pub ident_kinds : List TokenKind
ident_kinds = KwNamespace ∷ KwEntity ∷ KwExternal ∷ KwType ∷ KwSet ∷ KwAppliesTo ∷ KwPrincipal ∷ KwAction ∷ KwResource
    ∷ KwContext ∷ KwTags ∷ KwEnum ∷ Identifier ∷ []

abbrev pub all_kinds : (TokenKind → Bool) → List TokenKind → Bool
all_kinds p [] = true
all_kinds p (k ∷ ks) = p k && all_kinds p ks

abbrev pub listed : List TokenKind → TokenKind → Bool
listed [] k = false
listed (j ∷ js) k = same_kind j k || listed js k

-- the kinds that would make more of a symbol's words
abbrev pub stop_kinds : Symbol → List TokenKind
stop_kinds Schema = KwNamespace ∷ KwEntity ∷ KwExternal ∷ KwType ∷ KwAction ∷ At ∷ []
stop_kinds Decls = KwEntity ∷ KwExternal ∷ KwType ∷ KwAction ∷ At ∷ []
stop_kinds AnnotationTail = LParen ∷ []
stop_kinds IdentsTail = Comma ∷ []
stop_kinds NamesTail = Comma ∷ []
stop_kinds ParentsTail = KwIn ∷ PathSep ∷ []
stop_kinds ShapeTail = LBrace ∷ Equals ∷ []
stop_kinds TagsTail = KwTags ∷ PathSep ∷ Less ∷ []
stop_kinds Strings = StringLit ∷ Comma ∷ []
stop_kinds StringsTail = StringLit ∷ Comma ∷ []
stop_kinds RefsTail = KwIn ∷ PathSep ∷ []
stop_kinds AppliesTail = KwAppliesTo ∷ []
stop_kinds Apps = KwPrincipal ∷ KwResource ∷ KwContext ∷ Comma ∷ PathSep ∷ []
stop_kinds AppsTail = KwPrincipal ∷ KwResource ∷ KwContext ∷ Comma ∷ PathSep ∷ []
stop_kinds ContextType = PathSep ∷ []
stop_kinds PathTail = PathSep ∷ []
stop_kinds Types = PathSep ∷ []
stop_kinds Paths = Comma ∷ PathSep ∷ ident_kinds
stop_kinds PathsTail = Comma ∷ PathSep ∷ ident_kinds
stop_kinds Refs = PathSep ∷ []
stop_kinds RefList = StringLit ∷ Comma ∷ PathSep ∷ ident_kinds
stop_kinds RefListTail = StringLit ∷ Comma ∷ PathSep ∷ ident_kinds
stop_kinds RefTail = PathSep ∷ []
stop_kinds AnyType = PathSep ∷ Less ∷ []
stop_kinds SetTail = PathSep ∷ Less ∷ []
stop_kinds Attrs = StringLit ∷ At ∷ Comma ∷ PathSep ∷ Less ∷ ident_kinds
stop_kinds AttrsTail = StringLit ∷ At ∷ Comma ∷ PathSep ∷ Less ∷ ident_kinds
stop_kinds Attr = PathSep ∷ Less ∷ []
stop_kinds Mark = Question ∷ []
stop_kinds _ = []

abbrev pub stop : Symbol → TokenKind → Bool
stop x k = listed (stop_kinds x) k

abbrev pub implies : Bool → Bool → Bool
implies true b = b
implies false b = true

-- after the symbols, what would make more of one of them is no front of those behind it
abbrev pub closed : (TokenKind → Bool) → List Symbol → Bool
closed f [] = true
closed f (y ∷ ys) = all_kinds (λ k. implies (stop y k) (not (is_some (step ys k)) && implies (all_nullable ys) (f k)))
    ALL_KINDS && closed f ys

abbrev pub all_rows : (Row → Bool) → List Row → Bool
all_rows p [] = true
all_rows p (r ∷ rs) = p r && all_rows p rs

pub rows_closed : (x : Symbol) → all_rows (λ r. closed (stop x) r.next) (rows x) ≡ true
unfolding after_front
rows_closed (Token k) = refl
rows_closed Schema = refl
rows_closed Item = refl
rows_closed Decls = refl
rows_closed Decl = refl
rows_closed AnnotationTail = refl
rows_closed AfterNamespace = refl
rows_closed AfterEntity = refl
rows_closed EntityTail = refl
rows_closed AfterExternal = refl
rows_closed AfterAction = refl
rows_closed AfterType = refl
rows_closed Word = refl
rows_closed Ident = refl
rows_closed IdentsTail = refl
rows_closed Name = refl
rows_closed NamesTail = refl
rows_closed ParentsTail = refl
rows_closed ShapeTail = refl
rows_closed TagsTail = refl
rows_closed Strings = refl
rows_closed StringsTail = refl
rows_closed RefsTail = refl
rows_closed AppliesTail = refl
rows_closed Apps = refl
rows_closed AppsTail = refl
rows_closed ContextType = refl
rows_closed PathTail = refl
rows_closed Types = refl
rows_closed Paths = refl
rows_closed PathsTail = refl
rows_closed Refs = refl
rows_closed RefList = refl
rows_closed RefListTail = refl
rows_closed RefTail = refl
rows_closed RefStep = refl
rows_closed AnyType = refl
rows_closed SetTail = refl
rows_closed Record = refl
rows_closed Attrs = refl
rows_closed AttrsTail = refl
rows_closed Attr = refl
rows_closed Mark = refl

-- where a symbol may be nothing, its fronts would make more of it
pub fronts_stop : (x : Symbol)
    → all_kinds (λ k. implies (is_nullable x && is_some (after_front x k)) (stop x k)) ALL_KINDS ≡ true
unfolding after_front
fronts_stop (Token k) = refl
fronts_stop Schema = refl
fronts_stop Item = refl
fronts_stop Decls = refl
fronts_stop Decl = refl
fronts_stop AnnotationTail = refl
fronts_stop AfterNamespace = refl
fronts_stop AfterEntity = refl
fronts_stop EntityTail = refl
fronts_stop AfterExternal = refl
fronts_stop AfterAction = refl
fronts_stop AfterType = refl
fronts_stop Word = refl
fronts_stop Ident = refl
fronts_stop IdentsTail = refl
fronts_stop Name = refl
fronts_stop NamesTail = refl
fronts_stop ParentsTail = refl
fronts_stop ShapeTail = refl
fronts_stop TagsTail = refl
fronts_stop Strings = refl
fronts_stop StringsTail = refl
fronts_stop RefsTail = refl
fronts_stop AppliesTail = refl
fronts_stop Apps = refl
fronts_stop AppsTail = refl
fronts_stop ContextType = refl
fronts_stop PathTail = refl
fronts_stop Types = refl
fronts_stop Paths = refl
fronts_stop PathsTail = refl
fronts_stop Refs = refl
fronts_stop RefList = refl
fronts_stop RefListTail = refl
fronts_stop RefTail = refl
fronts_stop RefStep = refl
fronts_stop AnyType = refl
fronts_stop SetTail = refl
fronts_stop Record = refl
fronts_stop Attrs = refl
fronts_stop AttrsTail = refl
fronts_stop Attr = refl
fronts_stop Mark = refl

-- a kind that begins the symbol's least words, and how deep these are
abbrev pub start_kind : Symbol → TokenKind
start_kind (Token k) = k
start_kind EntityTail = Semi
start_kind RefStep = StringLit
start_kind AnyType = KwSet
start_kind AfterExternal = KwEntity
start_kind Record = LBrace
start_kind Item = KwNamespace
start_kind Decl = KwEntity
start_kind _ = Identifier

abbrev pub rank : Symbol → ℕ
rank AfterNamespace = 1
rank AfterEntity = 1
rank AfterExternal = 1
rank AfterAction = 1
rank AfterType = 1
rank Record = 1
rank Attr = 1
rank Item = 2
rank Decl = 2
rank _ = 0

abbrev pub all_below : ℕ → List Symbol → Bool
all_below n [] = true
all_below n (y ∷ ys) = (is_nullable y || nat_lt (rank y) n) && all_below n ys

abbrev pub leads_down : Symbol → Option (List Symbol) → Bool
leads_down x None = is_nullable x
leads_down x (Some next) = is_nullable x || all_below (rank x) next

pub after_token : (k : TokenKind) → after_front (Token k) k ≡ Some []
unfolding after_front
after_token KwNamespace = refl
after_token KwEntity = refl
after_token KwExternal = refl
after_token KwIn = refl
after_token KwType = refl
after_token KwSet = refl
after_token KwAppliesTo = refl
after_token KwPrincipal = refl
after_token KwAction = refl
after_token KwResource = refl
after_token KwContext = refl
after_token KwTags = refl
after_token KwEnum = refl
after_token Identifier = refl
after_token StringLit = refl
after_token At = refl
after_token Comma = refl
after_token Semi = refl
after_token Colon = refl
after_token PathSep = refl
after_token LParen = refl
after_token RParen = refl
after_token LBrace = refl
after_token RBrace = refl
after_token LBracket = refl
after_token RBracket = refl
after_token Less = refl
after_token Greater = refl
after_token Question = refl
after_token Equals = refl
after_token End = refl

pub leads : (x : Symbol) → leads_down x (after_front x (start_kind x)) ≡ true
unfolding after_front
leads (Token k) = ap (leads_down (Token k)) (after_token k)
leads Schema = refl
leads Item = refl
leads Decls = refl
leads Decl = refl
leads AnnotationTail = refl
leads AfterNamespace = refl
leads AfterEntity = refl
leads EntityTail = refl
leads AfterExternal = refl
leads AfterAction = refl
leads AfterType = refl
leads Word = refl
leads Ident = refl
leads IdentsTail = refl
leads Name = refl
leads NamesTail = refl
leads ParentsTail = refl
leads ShapeTail = refl
leads TagsTail = refl
leads Strings = refl
leads StringsTail = refl
leads RefsTail = refl
leads AppliesTail = refl
leads Apps = refl
leads AppsTail = refl
leads ContextType = refl
leads PathTail = refl
leads Types = refl
leads Paths = refl
leads PathsTail = refl
leads Refs = refl
leads RefList = refl
leads RefListTail = refl
leads RefTail = refl
leads RefStep = refl
leads AnyType = refl
leads SetTail = refl
leads Record = refl
leads Attrs = refl
leads AttrsTail = refl
leads Attr = refl
leads Mark = refl
