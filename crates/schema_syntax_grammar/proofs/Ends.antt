-- No sentence holds the end of the input as a token.
use Rattle.std.proofs.Common.{◌≡◌, List, [], ◌∷◌, ◌++◌, Bool, true, false, ◌&&◌, ◌||◌, Some, None, refl, subst}
use Rattle.std.specs.Prelude.{not}
use Rattle.schema_syntax_grammar.specs.declared.token_kind.TokenKind.{TokenKind}
use Rattle.schema_syntax_grammar.specs.declared.token_kind.TokenKind.TheVariants.{KwNamespace, KwEntity, KwExternal}
use Rattle.schema_syntax_grammar.specs.declared.token_kind.TokenKind.TheVariants.{KwIn, KwType, KwSet, KwAppliesTo}
use Rattle.schema_syntax_grammar.specs.declared.token_kind.TokenKind.TheVariants.{KwPrincipal, KwAction, KwResource}
use Rattle.schema_syntax_grammar.specs.declared.token_kind.TokenKind.TheVariants.{KwContext, KwTags, KwEnum, Identifier}
use Rattle.schema_syntax_grammar.specs.declared.token_kind.TokenKind.TheVariants.{StringLit, At, Comma, Semi, Colon}
use Rattle.schema_syntax_grammar.specs.declared.token_kind.TokenKind.TheVariants.{PathSep, LParen, RParen, LBrace}
use Rattle.schema_syntax_grammar.specs.declared.token_kind.TokenKind.TheVariants.{RBrace, LBracket, RBracket, Less}
use Rattle.schema_syntax_grammar.specs.declared.token_kind.TokenKind.TheVariants.{Greater, Question, Equals, End}
use Rattle.schema_syntax_grammar.specs.declared.symbol.Symbol.{Symbol}
use Rattle.schema_syntax_grammar.specs.declared.symbol.Symbol.TheVariants.{Token, Schema, Item, Decls, Decl}
use Rattle.schema_syntax_grammar.specs.declared.symbol.Symbol.TheVariants.{AnnotationTail, AfterNamespace, AfterEntity}
use Rattle.schema_syntax_grammar.specs.declared.symbol.Symbol.TheVariants.{EntityTail, AfterExternal, AfterAction}
use Rattle.schema_syntax_grammar.specs.declared.symbol.Symbol.TheVariants.{AfterType, Word, Ident, IdentsTail, Name}
use Rattle.schema_syntax_grammar.specs.declared.symbol.Symbol.TheVariants.{NamesTail, ParentsTail, ShapeTail, TagsTail}
use Rattle.schema_syntax_grammar.specs.declared.symbol.Symbol.TheVariants.{Strings, StringsTail, RefsTail, AppliesTail}
use Rattle.schema_syntax_grammar.specs.declared.symbol.Symbol.TheVariants.{Apps, AppsTail, ContextType, PathTail, Types}
use Rattle.schema_syntax_grammar.specs.declared.symbol.Symbol.TheVariants.{Paths, PathsTail, Refs, RefList, RefListTail}
use Rattle.schema_syntax_grammar.specs.declared.symbol.Symbol.TheVariants.{RefTail, RefStep, AnyType, SetTail, Record}
use Rattle.schema_syntax_grammar.specs.declared.symbol.Symbol.TheVariants.{Attrs, AttrsTail, Attr, Mark}
use Rattle.schema_syntax_grammar.specs.Grammar.{Sentence, same_kind}
use Rattle.schema_syntax_grammar.specs.Table.{rows, after_front}
use Rattle.schema_syntax_grammar.proofs.Stops.{listed, all_rows}
use Rattle.schema_syntax_grammar.proofs.Theory.{Forest, nothing, skip, take, and_left, and_right}
use Rattle.schema_syntax_grammar.proofs.Accept.{found_row}
use Rattle.schema_syntax_grammar.proofs.Complete.{sentence_forest}
use Rattle.schema_syntax_grammar.proofs.Sound.{append_nil}

-- no symbol of the stack is the end as a token
abbrev is_other : Symbol → Bool
is_other (Token k) = not (same_kind k End)
is_other _ = true

abbrev are_other : List Symbol → Bool
are_other [] = true
are_other (x ∷ s) = is_other x && are_other s

-- no row has the end as a token
rows_other : (x : Symbol) → all_rows (λ r. are_other r.next) (rows x) ≡ true
rows_other (Token k) = refl
rows_other Schema = refl
rows_other Item = refl
rows_other Decls = refl
rows_other Decl = refl
rows_other AnnotationTail = refl
rows_other AfterNamespace = refl
rows_other AfterEntity = refl
rows_other EntityTail = refl
rows_other AfterExternal = refl
rows_other AfterAction = refl
rows_other AfterType = refl
rows_other Word = refl
rows_other Ident = refl
rows_other IdentsTail = refl
rows_other Name = refl
rows_other NamesTail = refl
rows_other ParentsTail = refl
rows_other ShapeTail = refl
rows_other TagsTail = refl
rows_other Strings = refl
rows_other StringsTail = refl
rows_other RefsTail = refl
rows_other AppliesTail = refl
rows_other Apps = refl
rows_other AppsTail = refl
rows_other ContextType = refl
rows_other PathTail = refl
rows_other Types = refl
rows_other Paths = refl
rows_other PathsTail = refl
rows_other Refs = refl
rows_other RefList = refl
rows_other RefListTail = refl
rows_other RefTail = refl
rows_other RefStep = refl
rows_other AnyType = refl
rows_other SetTail = refl
rows_other Record = refl
rows_other Attrs = refl
rows_other AttrsTail = refl
rows_other Attr = refl
rows_other Mark = refl

-- no other token is the end
token_end : (k : TokenKind) → not (same_kind k End) ≡ true → after_front (Token k) End ≡ None
unfolding after_front
token_end KwNamespace e = refl
token_end KwEntity e = refl
token_end KwExternal e = refl
token_end KwIn e = refl
token_end KwType e = refl
token_end KwSet e = refl
token_end KwAppliesTo e = refl
token_end KwPrincipal e = refl
token_end KwAction e = refl
token_end KwResource e = refl
token_end KwContext e = refl
token_end KwTags e = refl
token_end KwEnum e = refl
token_end Identifier e = refl
token_end StringLit e = refl
token_end At e = refl
token_end Comma e = refl
token_end Semi e = refl
token_end Colon e = refl
token_end PathSep e = refl
token_end LParen e = refl
token_end RParen e = refl
token_end LBrace e = refl
token_end RBrace e = refl
token_end LBracket e = refl
token_end RBracket e = refl
token_end Less e = refl
token_end Greater e = refl
token_end Question e = refl
token_end Equals e = refl
token_end End e = cc

-- no symbol but the end as a token begins with the end
no_end : (x : Symbol) → is_other x ≡ true → after_front x End ≡ None
unfolding after_front
no_end (Token k) e = token_end k e
no_end Schema e = refl
no_end Item e = refl
no_end Decls e = refl
no_end Decl e = refl
no_end AnnotationTail e = refl
no_end AfterNamespace e = refl
no_end AfterEntity e = refl
no_end EntityTail e = refl
no_end AfterExternal e = refl
no_end AfterAction e = refl
no_end AfterType e = refl
no_end Word e = refl
no_end Ident e = refl
no_end IdentsTail e = refl
no_end Name e = refl
no_end NamesTail e = refl
no_end ParentsTail e = refl
no_end ShapeTail e = refl
no_end TagsTail e = refl
no_end Strings e = refl
no_end StringsTail e = refl
no_end RefsTail e = refl
no_end AppliesTail e = refl
no_end Apps e = refl
no_end AppsTail e = refl
no_end ContextType e = refl
no_end PathTail e = refl
no_end Types e = refl
no_end Paths e = refl
no_end PathsTail e = refl
no_end Refs e = refl
no_end RefList e = refl
no_end RefListTail e = refl
no_end RefTail e = refl
no_end RefStep e = refl
no_end AnyType e = refl
no_end SetTail e = refl
no_end Record e = refl
no_end Attrs e = refl
no_end AttrsTail e = refl
no_end Attr e = refl
no_end Mark e = refl

-- nor does what comes after a first token hold it
next_other : (x : Symbol) (k : TokenKind) (next : List Symbol) → after_front x k ≡ Some next → are_other next ≡ true
unfolding after_front
next_other x k next g =
    let r = found_row (λ r. are_other r.next) (rows x) k next (rows_other x) g in
    subst (λ n. are_other n ≡ true) r.1 r.2

-- a kind in neither of two lists is not in both, joined
listed_append : (k : TokenKind) (a b : List TokenKind) → listed a k ≡ false → listed b k ≡ false
    → listed (a ++ b) k ≡ false
listed_append k [] b e f = f
listed_append k (j ∷ a) b e f = either (same_kind j k) (listed a k) (listed (a ++ b) k) e (λ h. listed_append k a b h f)
  where
    either : (t a b : Bool) → t || a ≡ false → (a ≡ false → b ≡ false) → t || b ≡ false
    either true a b e f = e
    either false a b e f = f e

-- the first token is not the end
taken_other : (x : Symbol) (k : TokenKind) (next : List Symbol) → is_other x ≡ true → after_front x k ≡ Some next
    → same_kind k End ≡ false
taken_other x KwNamespace next e g = refl
taken_other x KwEntity next e g = refl
taken_other x KwExternal next e g = refl
taken_other x KwIn next e g = refl
taken_other x KwType next e g = refl
taken_other x KwSet next e g = refl
taken_other x KwAppliesTo next e g = refl
taken_other x KwPrincipal next e g = refl
taken_other x KwAction next e g = refl
taken_other x KwResource next e g = refl
taken_other x KwContext next e g = refl
taken_other x KwTags next e g = refl
taken_other x KwEnum next e g = refl
taken_other x Identifier next e g = refl
taken_other x StringLit next e g = refl
taken_other x At next e g = refl
taken_other x Comma next e g = refl
taken_other x Semi next e g = refl
taken_other x Colon next e g = refl
taken_other x PathSep next e g = refl
taken_other x LParen next e g = refl
taken_other x RParen next e g = refl
taken_other x LBrace next e g = refl
taken_other x RBrace next e g = refl
taken_other x LBracket next e g = refl
taken_other x RBracket next e g = refl
taken_other x Less next e g = refl
taken_other x Greater next e g = refl
taken_other x Question next e g = refl
taken_other x Equals next e g = refl
taken_other x End next e g = let n = no_end x e in cc

-- nor is any token that the symbols stand for
forest_other : {s : List Symbol} {w : List TokenKind} → Forest s w → are_other s ≡ true → listed w End ≡ false
forest_other nothing e = refl
forest_other (skip n f) e = forest_other f (and_right _ _ e)
forest_other (take {x = x} {k = k} {next = next} {u = u} {v = v} g f h) e =
    rw (taken_other x k next (and_left _ _ e) g)
    (listed_append End u v (forest_other f (next_other x k next g)) (forest_other h (and_right _ _ e)))

-- no sentence holds the end as a token
pub sentence_other : (w : List TokenKind) → Sentence w → listed w End ≡ false
sentence_other w p =
    let f = subst (Forest (Schema ∷ [])) (append_nil w) (sentence_forest p) in
    forest_other f refl
