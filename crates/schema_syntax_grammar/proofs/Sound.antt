-- What the table reads is a phrase of the grammar.
use Rattle.std.proofs.Common.{◌≡◌, List, [], ◌∷◌, ◌++◌, Bool, true, false, Option, Some, refl, sym, ap, ◌∙◌, subst}
use Rattle.std.proofs.Common.{append_assoc}
use Rattle.std.specs.Prelude.{if◌then◌else◌}
use Rattle.schema_syntax_grammar.specs.declared.token_kind.TokenKind.{TokenKind}
use Rattle.schema_syntax_grammar.specs.declared.token_kind.TokenKind.TheVariants.{KwNamespace, KwEntity, KwExternal}
use Rattle.schema_syntax_grammar.specs.declared.token_kind.TokenKind.TheVariants.{KwIn, KwType, KwSet, KwAppliesTo}
use Rattle.schema_syntax_grammar.specs.declared.token_kind.TokenKind.TheVariants.{KwPrincipal, KwAction, KwResource}
use Rattle.schema_syntax_grammar.specs.declared.token_kind.TokenKind.TheVariants.{KwContext, KwTags, KwEnum, StringLit}
use Rattle.schema_syntax_grammar.specs.declared.token_kind.TokenKind.TheVariants.{At, Comma, Semi, Colon, PathSep}
use Rattle.schema_syntax_grammar.specs.declared.token_kind.TokenKind.TheVariants.{LParen, RParen, LBrace, RBrace}
use Rattle.schema_syntax_grammar.specs.declared.token_kind.TokenKind.TheVariants.{LBracket, RBracket, Less, Greater}
use Rattle.schema_syntax_grammar.specs.declared.token_kind.TokenKind.TheVariants.{Question, Equals}
use Rattle.schema_syntax_grammar.specs.declared.symbol.Symbol.{Symbol}
use Rattle.schema_syntax_grammar.specs.declared.symbol.Symbol.TheVariants.{Token, Schema, Item, Decls, Decl}
use Rattle.schema_syntax_grammar.specs.declared.symbol.Symbol.TheVariants.{AnnotationTail, AfterNamespace, AfterEntity}
use Rattle.schema_syntax_grammar.specs.declared.symbol.Symbol.TheVariants.{EntityTail, AfterExternal, AfterAction}
use Rattle.schema_syntax_grammar.specs.declared.symbol.Symbol.TheVariants.{AfterType, Word, Ident, IdentsTail, Name}
use Rattle.schema_syntax_grammar.specs.declared.symbol.Symbol.TheVariants.{NamesTail, ParentsTail, ShapeTail, TagsTail}
use Rattle.schema_syntax_grammar.specs.declared.symbol.Symbol.TheVariants.{Strings, StringsTail, RefsTail, AppliesTail}
use Rattle.schema_syntax_grammar.specs.declared.symbol.Symbol.TheVariants.{Apps, AppsTail, ContextType, PathTail, Types}
use Rattle.schema_syntax_grammar.specs.declared.symbol.Symbol.TheVariants.{Paths, PathsTail, Refs, RefList, RefListTail}
use Rattle.schema_syntax_grammar.specs.declared.symbol.Symbol.TheVariants.{RefTail, RefStep, AnyType, SetTail, Record}
use Rattle.schema_syntax_grammar.specs.declared.symbol.Symbol.TheVariants.{Attrs, AttrsTail, Attr, Mark}
use Rattle.schema_syntax_grammar.specs.Grammar.{is_word_kind, is_ident, Nonterminal, schema, item, decls, decl}
use Rattle.schema_syntax_grammar.specs.Grammar.{bare_decl}
use Rattle.schema_syntax_grammar.specs.Grammar.{idents, parents, shape, tags, strings, names, name, in_refs, applies}
use Rattle.schema_syntax_grammar.specs.Grammar.{apps, app, types, paths, refs, ref_list, ref, ty, rec, attrs, attr}
use Rattle.schema_syntax_grammar.specs.Grammar.{mark, path, anns, Phrase, no_item, more_items, namespace_item}
use Rattle.schema_syntax_grammar.specs.Grammar.{decl_item, no_decl, more_decls, annotated, entity_decl, enum_decl}
use Rattle.schema_syntax_grammar.specs.Grammar.{external_entity, action_decl, external_action, common_decl, one_ident}
use Rattle.schema_syntax_grammar.specs.Grammar.{more_idents, no_parents, in_parents, no_shape, bare_shape, equals_shape}
use Rattle.schema_syntax_grammar.specs.Grammar.{no_tags, some_tags, no_string, last_string, more_strings, one_name}
use Rattle.schema_syntax_grammar.specs.Grammar.{more_names, ident_name, string_name, no_refs, some_refs, no_applies}
use Rattle.schema_syntax_grammar.specs.Grammar.{some_applies, no_app, last_app, more_apps, principal_app, resource_app}
use Rattle.schema_syntax_grammar.specs.Grammar.{context_path, context_record, one_type, listed_types, no_path}
use Rattle.schema_syntax_grammar.specs.Grammar.{last_path, more_paths, one_ref, listed_refs, no_ref, last_ref}
use Rattle.schema_syntax_grammar.specs.Grammar.{more_refs, plain_ref, typed_ref, path_type, set_type, record_type}
use Rattle.schema_syntax_grammar.specs.Grammar.{braces, no_attr, last_attr, more_attrs, one_attr, no_mark, question}
use Rattle.schema_syntax_grammar.specs.Grammar.{one_step, more_steps, no_ann, bare_ann, valued_ann, same_kind}
use Rattle.schema_syntax_grammar.specs.Grammar.{is_name_kind}
use Rattle.schema_syntax_grammar.specs.Table.{Row, is_at, rows, find, after_front, is_nullable}
use Rattle.schema_syntax_grammar.proofs.Theory.{Forest, nothing, skip, take}
use Rattle.schema_syntax_grammar.proofs.Accept.{kinds_equal}

abbrev Kinds : Type 0
Kinds = List TokenKind

-- the rest of an annotation
abbrev Value : Kinds → Type 0
Value w = (k : TokenKind) (a : Kinds) → is_word_kind k ≡ true → Phrase anns a → Phrase anns (At ∷ k ∷ (w ++ a))

-- the rest of a list, after one of its parts
abbrev After : Nonterminal → Nonterminal → Kinds → Type 0
After one all w = (a : Kinds) → Phrase one a → Phrase all (a ++ w)

-- an action's name with a path
record Typed (w : Kinds) : Type 0 where
  front : Kinds
  is : Phrase path front
  whole : front ++ PathSep ∷ StringLit ∷ [] ≡ w

-- what each symbol stands for
abbrev Means : Symbol → Kinds → Type 0
Means (Token k) w = w ≡ k ∷ []
Means Schema w = Phrase schema w
Means Item w = Phrase item w
Means Decls w = Phrase decls w
Means Decl w = Phrase decl w
Means AnnotationTail w = Value w
Means AfterNamespace w = Phrase item (KwNamespace ∷ w)
Means AfterEntity w = Phrase bare_decl (KwEntity ∷ w)
Means EntityTail w = (a : Kinds) → Phrase idents a → Phrase bare_decl (KwEntity ∷ (a ++ w))
Means AfterExternal w = Phrase bare_decl (KwExternal ∷ w)
Means AfterAction w = Phrase bare_decl (KwAction ∷ w)
Means AfterType w = Phrase bare_decl (KwType ∷ w)
Means Word w = (k : TokenKind) × (w ≡ k ∷ []) × (is_word_kind k ≡ true)
Means Ident w = (k : TokenKind) × (w ≡ k ∷ []) × (is_ident k ≡ true)
Means IdentsTail w = (k : TokenKind) → is_ident k ≡ true → Phrase idents (k ∷ w)
Means Name w = Phrase name w
Means NamesTail w = After name names w
Means ParentsTail w = Phrase parents w
Means ShapeTail w = Phrase shape w
Means TagsTail w = Phrase tags w
Means Strings w = Phrase strings w
Means StringsTail w = Phrase strings (StringLit ∷ w)
Means RefsTail w = Phrase in_refs w
Means AppliesTail w = Phrase applies w
Means Apps w = Phrase apps w
Means AppsTail w = After app apps w
Means ContextType w = Phrase app (KwContext ∷ Colon ∷ w)
Means PathTail w = (k : TokenKind) → is_ident k ≡ true → Phrase path (k ∷ w)
Means Types w = Phrase types w
Means Paths w = Phrase paths w
Means PathsTail w = After path paths w
Means Refs w = Phrase refs w
Means RefList w = Phrase ref_list w
Means RefListTail w = After ref ref_list w
Means RefTail w = (k : TokenKind) → is_ident k ≡ true → Phrase ref (k ∷ w)
Means RefStep w = (k : TokenKind) → is_ident k ≡ true → Typed (k ∷ PathSep ∷ w)
Means AnyType w = Phrase ty w
Means SetTail w = Phrase ty (KwSet ∷ w)
Means Record w = Phrase rec w
Means Attrs w = Phrase attrs w
Means AttrsTail w = After attr attrs w
Means Attr w = Phrase attr w
Means Mark w = Phrase mark w

abbrev MeansAll : List Symbol → Kinds → Type 0
MeansAll [] w = w ≡ []
MeansAll (x ∷ s) w = (u : Kinds) × (v : Kinds) × (w ≡ u ++ v) × Means x u × MeansAll s v

-- what a row adds to a symbol
abbrev Grows : Symbol → Row → Type 0
Grows x r = (k : TokenKind) (u : Kinds) → is_at r.front k ≡ true → MeansAll r.next u → Means x (k ∷ u)

abbrev GrowsAll : Symbol → List Row → Type 0
GrowsAll x [] = Unit {0}
GrowsAll x (r ∷ rs) = Grows x r × GrowsAll x rs

grown_at : (x : Symbol) (r : Row) (rest : Option (List Symbol)) (k : TokenKind) (next : List Symbol)
    (u : Kinds) (b : Bool)
    → is_at r.front k ≡ b → Grows x r → (rest ≡ Some next → Means x (k ∷ u)) → MeansAll next u
    → (if b then Some r.next else rest) ≡ Some next → Means x (k ∷ u)
grown_at x r rest k next u true h g more m e = let n : next ≡ r.next = cc in g k u h (subst (λ z. MeansAll z u) n m)
grown_at x r rest k next u false h g more m e = more e

grown : (x : Symbol) (rs : List Row) (k : TokenKind) (next : List Symbol) (u : Kinds) → GrowsAll x rs
    → find rs k ≡ Some next → MeansAll next u → Means x (k ∷ u)
grown x [] k next u g e m = cc
grown x (r ∷ rs) k next u g e m =
    grown_at x r (find rs k) k next u (is_at r.front k) refl g.0 (λ h. grown x rs k next u g.1 h m) m e

at_one : (j k : TokenKind) (P : TokenKind → Type 0) → same_kind j k ≡ true → P j → P k
at_one j k P e p = subst P (kinds_equal j k e) p

pub append_nil : (w : Kinds) → w ++ [] ≡ w
append_nil [] = refl
append_nil (k ∷ w) = ap (λ v. k ∷ v) (append_nil w)

last : (x : Symbol) (u : Kinds) → MeansAll (x ∷ []) u → Means x u
last x u (a, b, e, m, n) = let whole : a ≡ u = sym (rw (e, n, append_nil a) refl) in subst (Means x) whole m

-- the symbols that are read in turn, as the productions want them

-- the last symbol and the marks around it
then_token : (x : Symbol) (j : TokenKind) (u : Kinds) → MeansAll (x ∷ Token j ∷ []) u
    → (a : Kinds) × (a ++ j ∷ [] ≡ u) × Means x a
then_token x j u (a, b, e, m, (c, d, e2, t, n)) = (a, rw (e, e2, t, n) refl, m)

-- annotations

value_ann : (k : TokenKind) (t : Kinds) → is_word_kind k ≡ true → Value t → (a : Kinds) → Phrase anns a
    → Phrase anns ((At ∷ k ∷ t) ++ a)
value_ann k t h f a p = f k a h p

-- one annotation more
Prefixes : Kinds → Type 0
Prefixes t = (a : Kinds) → Phrase anns a → Phrase anns (t ++ a)

on_decl : {w : Kinds} (t : Kinds) → Prefixes t → Phrase decl w → Phrase decl (t ++ w)
unfolding Prefixes
on_decl t f (annotated {a = a} {b = b} p q) = rw (← append_assoc) (annotated (f a p) q)

on_item : {w : Kinds} (t : Kinds) → Prefixes t → Phrase item w → Phrase item (t ++ w)
unfolding Prefixes
on_item t f (namespace_item {a = a} {p = p} {d = d} n q r) =
    rw (← append_assoc t a (KwNamespace ∷ (p ++ LBrace ∷ (d ++ RBrace ∷ [])))) (namespace_item (f a n) q r)
on_item t f (decl_item d) = decl_item (on_decl t f d)

on_attr : {w : Kinds} (t : Kinds) → Prefixes t → Phrase attr w → Phrase attr (t ++ w)
unfolding Prefixes
on_attr t f (one_attr {a = a} {n = n} {m = m} {t = b} c r q u) =
    rw (← append_assoc t a (n ++ (m ++ Colon ∷ b))) (one_attr (f a c) r q u)

-- an annotation, what is annotated, and the symbols behind it
record Annotated (y : Symbol) (s : List Symbol) (u : Kinds) : Type 0 where
  before : Kinds
  one : Kinds
  rest : Kinds
  joined : (before ++ one) ++ rest ≡ At ∷ u
  prefixes : Prefixes before
  is : Means y one
  behind : MeansAll s rest

annotation : (y : Symbol) (s : List Symbol) (u : Kinds) → MeansAll (Word ∷ AnnotationTail ∷ y ∷ s) u → Annotated y s u
unfolding Prefixes
annotation y s u (a, u1, e1, (k, ea, h), (b, u2, e2, f, (c, u3, e3, m, n))) =
    record {
      before = At ∷ k ∷ b;
      one = c;
      rest = u3;
      joined = rw (e1, ea, e2, e3) (simp append_assoc refl);
      prefixes = value_ann k b h f;
      is = m;
      behind = n;
    }

schema_at : (u : Kinds) → MeansAll (Word ∷ AnnotationTail ∷ Item ∷ Schema ∷ []) u → Phrase schema (At ∷ u)
schema_at u m =
    let r = annotation Item (Schema ∷ []) u m in
    subst (Phrase schema) r.joined (more_items (on_item r.before r.prefixes r.is) (last Schema r.rest r.behind))

item_at : (u : Kinds) → MeansAll (Word ∷ AnnotationTail ∷ Item ∷ []) u → Phrase item (At ∷ u)
item_at u m =
    let r = annotation Item [] u m in
    let joined : r.before ++ r.one ≡ At ∷ u = sym (append_nil (r.before ++ r.one))
    ∙ (ap (λ z. (r.before ++ r.one) ++ z) (sym r.behind) ∙ r.joined) in
    subst (Phrase item) joined (on_item r.before r.prefixes r.is)

decls_at : (u : Kinds) → MeansAll (Word ∷ AnnotationTail ∷ Decl ∷ Decls ∷ []) u → Phrase decls (At ∷ u)
decls_at u m =
    let r = annotation Decl (Decls ∷ []) u m in
    subst (Phrase decls) r.joined (more_decls (on_decl r.before r.prefixes r.is) (last Decls r.rest r.behind))

decl_at : (u : Kinds) → MeansAll (Word ∷ AnnotationTail ∷ Decl ∷ []) u → Phrase decl (At ∷ u)
decl_at u m =
    let r = annotation Decl [] u m in
    let joined : r.before ++ r.one ≡ At ∷ u = sym (append_nil (r.before ++ r.one))
    ∙ (ap (λ z. (r.before ++ r.one) ++ z) (sym r.behind) ∙ r.joined) in
    subst (Phrase decl) joined (on_decl r.before r.prefixes r.is)

attrs_at : (u : Kinds) → MeansAll (Word ∷ AnnotationTail ∷ Attr ∷ AttrsTail ∷ []) u → Phrase attrs (At ∷ u)
attrs_at u m =
    let r = annotation Attr (AttrsTail ∷ []) u m in
    let more = last AttrsTail r.rest r.behind in
    subst (Phrase attrs) r.joined (more (r.before ++ r.one) (on_attr r.before r.prefixes r.is))

attr_at : (u : Kinds) → MeansAll (Word ∷ AnnotationTail ∷ Attr ∷ []) u → Phrase attr (At ∷ u)
attr_at u m =
    let r = annotation Attr [] u m in
    let joined : r.before ++ r.one ≡ At ∷ u = sym (append_nil (r.before ++ r.one))
    ∙ (ap (λ z. (r.before ++ r.one) ++ z) (sym r.behind) ∙ r.joined) in
    subst (Phrase attr) joined (on_attr r.before r.prefixes r.is)

value : (u : Kinds) → MeansAll (Token StringLit ∷ Token RParen ∷ []) u → Value (LParen ∷ u)
value u (a, b, e, m, (c, d, e2, t, n)) k r h p = rw (e, m, e2, t, n) (valued_ann h p)

-- declarations

bare_item : {w : Kinds} → Phrase bare_decl w → Phrase item w
bare_item p = decl_item (annotated no_ann p)

-- a declaration, by its first word, and what comes after it
schema_decl : (j : TokenKind) (x : Symbol) (u : Kinds) → ((a : Kinds) → Means x a → Phrase bare_decl (j ∷ a))
    → MeansAll (x ∷ Schema ∷ []) u → Phrase schema (j ∷ u)
schema_decl j x u f (a, b, e, m, n) = rw e (more_items (bare_item (f a m)) (last Schema b n))

item_decl : (j : TokenKind) (x : Symbol) (u : Kinds) → ((a : Kinds) → Means x a → Phrase bare_decl (j ∷ a))
    → MeansAll (x ∷ []) u → Phrase item (j ∷ u)
item_decl j x u f m = bare_item (f u (last x u m))

decls_decl : (j : TokenKind) (x : Symbol) (u : Kinds) → ((a : Kinds) → Means x a → Phrase bare_decl (j ∷ a))
    → MeansAll (x ∷ Decls ∷ []) u → Phrase decls (j ∷ u)
decls_decl j x u f (a, b, e, m, n) = rw e (more_decls (annotated no_ann (f a m)) (last Decls b n))

decl_decl : (j : TokenKind) (x : Symbol) (u : Kinds) → ((a : Kinds) → Means x a → Phrase bare_decl (j ∷ a))
    → MeansAll (x ∷ []) u → Phrase decl (j ∷ u)
decl_decl j x u f m = annotated no_ann (f u (last x u m))

schema_namespace : (u : Kinds) → MeansAll (AfterNamespace ∷ Schema ∷ []) u → Phrase schema (KwNamespace ∷ u)
schema_namespace u (a, b, e, m, n) = rw e (more_items m (last Schema b n))

namespace_row : (k : TokenKind) (u : Kinds) → is_ident k ≡ true
    → MeansAll (PathTail ∷ Token LBrace ∷ Decls ∷ Token RBrace ∷ []) u → Phrase item (KwNamespace ∷ k ∷ u)
namespace_row k u h (a, u1, e1, p, (b, u2, e2, t, m)) =
    let d = then_token Decls RBrace u2 m in
    let whole : KwNamespace ∷ ((k ∷ a) ++ LBrace ∷ (d.0 ++ RBrace ∷ []))
    ≡ KwNamespace ∷ k ∷ u = rw (e1, e2, t) (ap (λ z. KwNamespace ∷ k ∷ (a ++ LBrace ∷ z)) d.1) in
    subst (Phrase item) whole (namespace_item no_ann (p k h) d.2)

entity_row : (k : TokenKind) (u : Kinds) → is_ident k ≡ true → MeansAll (IdentsTail ∷ EntityTail ∷ []) u
    → Phrase bare_decl (KwEntity ∷ k ∷ u)
entity_row k u h (a, b, e, p, m) = let tail = last EntityTail b m in rw e (tail (k ∷ a) (p k h))

-- an entity's parents, shape and tags, and its end

parts : (p s t : Kinds) → Phrase parents p → Phrase shape s → Phrase tags t
    → Means EntityTail (p ++ (s ++ (t ++ Semi ∷ [])))
parts p s t q r u = λ a n. entity_decl n q r u

in_row : (u : Kinds) → MeansAll (Types ∷ ShapeTail ∷ TagsTail ∷ Token Semi ∷ []) u → Means EntityTail (KwIn ∷ u)
in_row u (a, u1, e1, q, (b, u2, e2, r, m)) =
    let t = then_token TagsTail Semi u2 m in
    let whole : KwIn ∷ (a ++ (b ++ (t.0 ++ Semi ∷ [])))
    ≡ KwIn ∷ u = rw (e1, e2) (ap (λ z. KwIn ∷ (a ++ (b ++ z))) t.1) in
    subst (Means EntityTail) whole (parts (KwIn ∷ a) b t.0 (in_parents q) r t.2)

equals_row : (u : Kinds) → MeansAll (Record ∷ TagsTail ∷ Token Semi ∷ []) u → Means EntityTail (Equals ∷ u)
equals_row u (a, u1, e1, r, m) =
    let t = then_token TagsTail Semi u1 m in
    let whole : Equals ∷ (a ++ (t.0 ++ Semi ∷ [])) ≡ Equals ∷ u = rw e1 (ap (λ z. Equals ∷ (a ++ z)) t.1) in
    subst (Means EntityTail) whole (parts [] (Equals ∷ a) t.0 no_parents (equals_shape r) t.2)

brace_row : (u : Kinds) → MeansAll (Attrs ∷ Token RBrace ∷ TagsTail ∷ Token Semi ∷ []) u
    → Means EntityTail (LBrace ∷ u)
brace_row u (a, u1, e1, r, (b, u2, e2, c, m)) =
    let t = then_token TagsTail Semi u2 m in
    let whole : (LBrace ∷ (a ++ RBrace ∷ [])) ++ (t.0 ++ Semi ∷ [])
    ≡ LBrace ∷ u = rw (e1, e2, c) (simp append_assoc (ap (λ z. LBrace ∷ (a ++ RBrace ∷ z)) t.1)) in
    subst (Means EntityTail) whole (parts [] (LBrace ∷ (a ++ RBrace ∷ [])) t.0 no_parents (bare_shape (braces r)) t.2)

tags_row : (u : Kinds) → MeansAll (AnyType ∷ Token Semi ∷ []) u → Means EntityTail (KwTags ∷ u)
tags_row u m =
    let t = then_token AnyType Semi u m in
    let whole : KwTags ∷ (t.0 ++ Semi ∷ []) ≡ KwTags ∷ u = ap (λ z. KwTags ∷ z) t.1 in
    subst (Means EntityTail) whole (parts [] [] (KwTags ∷ t.0) no_parents no_shape (some_tags t.2))

enum_row : (u : Kinds) → MeansAll (Token LBracket ∷ Strings ∷ Token RBracket ∷ Token Semi ∷ []) u
    → Means EntityTail (KwEnum ∷ u)
enum_row u (a, u1, e1, c, (b, u2, e2, r, m)) n p =
    let t = then_token (Token RBracket) Semi u2 m in
    let whole : KwEnum ∷ LBracket ∷ (b ++ RBracket ∷ Semi ∷ [])
    ≡ KwEnum ∷ u = rw (e1, c, e2) (ap (λ z. KwEnum ∷ LBracket ∷ (b ++ z)) (ap (λ z. z ++ Semi ∷ []) (sym t.2) ∙ t.1)) in
    subst (λ w. Phrase bare_decl (KwEntity ∷ (n ++ w))) whole (enum_decl p r)

external_entity_row : (u : Kinds) → MeansAll (Ident ∷ IdentsTail ∷ ParentsTail ∷ Token Semi ∷ []) u
    → Phrase bare_decl (KwExternal ∷ KwEntity ∷ u)
external_entity_row u (i, u1, e1, (k, ei, h), (a, u2, e2, f, m)) =
    let p = then_token ParentsTail Semi u2 m in
    let whole : KwExternal ∷ KwEntity ∷ ((k ∷ a) ++ (p.0 ++ Semi ∷ []))
    ≡ KwExternal ∷ KwEntity ∷ u = rw (e1, ei, e2) (ap (λ z. KwExternal ∷ KwEntity ∷ k ∷ (a ++ z)) p.1) in
    subst (Phrase bare_decl) whole (external_entity (f k h) p.2)

external_action_row : (u : Kinds) → MeansAll (Name ∷ NamesTail ∷ RefsTail ∷ Token Semi ∷ []) u
    → Phrase bare_decl (KwExternal ∷ KwAction ∷ u)
external_action_row u (n, u1, e1, i, (a, u2, e2, f, m)) =
    let p = then_token RefsTail Semi u2 m in
    let whole : KwExternal ∷ KwAction ∷ ((n ++ a) ++ (p.0 ++ Semi ∷ []))
    ≡ KwExternal ∷ KwAction ∷ u = rw (e1, e2)
    (simp append_assoc (ap (λ z. KwExternal ∷ KwAction ∷ (n ++ (a ++ z))) p.1)) in
    subst (Phrase bare_decl) whole (external_action (f n i) p.2)

pub one_token : (k : TokenKind) → is_name_kind k ≡ true → Phrase name (k ∷ [])
one_token StringLit h = string_name
one_token k h = ident_name h

action_row : (k : TokenKind) (u : Kinds) → is_name_kind k ≡ true
    → MeansAll (NamesTail ∷ RefsTail ∷ AppliesTail ∷ Token Semi ∷ []) u → Phrase bare_decl (KwAction ∷ k ∷ u)
action_row k u h (a, u1, e1, f, (b, u2, e2, r, m)) =
    let p = then_token AppliesTail Semi u2 m in
    let whole : KwAction ∷ ((k ∷ a) ++ (b ++ (p.0 ++ Semi ∷ [])))
    ≡ KwAction ∷ k ∷ u = rw (e1, e2) (ap (λ z. KwAction ∷ k ∷ (a ++ (b ++ z))) p.1) in
    subst (Phrase bare_decl) whole (action_decl (f (k ∷ []) (one_token k h)) r p.2)

type_row : (k : TokenKind) (u : Kinds) → is_ident k ≡ true → MeansAll (Token Equals ∷ AnyType ∷ Token Semi ∷ []) u
    → Phrase bare_decl (KwType ∷ k ∷ u)
type_row k u h (a, u1, e1, c, m) =
    let t = then_token AnyType Semi u1 m in
    let whole : KwType ∷ k ∷ Equals ∷ (t.0 ++ Semi ∷ [])
    ≡ KwType ∷ k ∷ u = rw (e1, c) (ap (λ z. KwType ∷ k ∷ Equals ∷ z) t.1) in
    subst (Phrase bare_decl) whole (common_decl h t.2)

-- the parts of declarations

braced : (P : Kinds → Type 0) (u : Kinds) → ((a : Kinds) → Phrase rec a → P a)
    → MeansAll (Attrs ∷ Token RBrace ∷ []) u → P (LBrace ∷ u)
braced P u f m = let t = then_token Attrs RBrace u m in
    subst (λ z. P (LBrace ∷ z)) t.1 (f (LBrace ∷ (t.0 ++ RBrace ∷ [])) (braces t.2))

more_ident : (i : TokenKind) (u : Kinds) → MeansAll (Ident ∷ IdentsTail ∷ []) u → is_ident i ≡ true
    → Phrase idents (i ∷ Comma ∷ u)
more_ident i u (a, b, e, (k, ea, h), m) g = let p = last IdentsTail b m in rw (e, ea) (more_idents g (p k h))

more_name : (u : Kinds) → MeansAll (Name ∷ NamesTail ∷ []) u → (a : Kinds) → Phrase name a
    → Phrase names (a ++ Comma ∷ u)
more_name u (b, c, e, n, m) a p = let f = last NamesTail c m in rw e (more_names p (f b n))

more_step : (i : TokenKind) (u : Kinds) → MeansAll (Ident ∷ PathTail ∷ []) u → is_ident i ≡ true
    → Phrase path (i ∷ PathSep ∷ u)
more_step i u (a, b, e, (k, ea, h), m) g = let p = last PathTail b m in rw (e, ea) (more_steps g (p k h))

applies_row : (u : Kinds) → MeansAll (Token LBrace ∷ Apps ∷ Token RBrace ∷ []) u → Phrase applies (KwAppliesTo ∷ u)
applies_row u (a, b, e, c, m) =
    let t = then_token Apps RBrace b m in
    rw (e, c) (subst (λ z. Phrase applies (KwAppliesTo ∷ LBrace ∷ z)) t.1 (some_applies t.2))

app_row : (j : TokenKind) (x : Symbol) (u : Kinds) → ((a : Kinds) → Means x a → Phrase app (j ∷ Colon ∷ a))
    → MeansAll (Token Colon ∷ x ∷ AppsTail ∷ []) u → Phrase apps (j ∷ u)
app_row j x u f (a, b, e, c, (d, r, e2, p, m)) =
    let more = last AppsTail r m in rw (e, c, e2) (more (j ∷ Colon ∷ d) (f d p))

types_bracket : (u : Kinds) → MeansAll (Paths ∷ Token RBracket ∷ []) u → Phrase types (LBracket ∷ u)
types_bracket u m = let t = then_token Paths RBracket u m in
    subst (λ z. Phrase types (LBracket ∷ z)) t.1 (listed_types t.2)

first_path : (k : TokenKind) (u : Kinds) → is_ident k ≡ true → MeansAll (PathTail ∷ PathsTail ∷ []) u
    → Phrase paths (k ∷ u)
first_path k u h (a, b, e, p, m) = let q = last PathsTail b m in rw e (q (k ∷ a) (p k h))

refs_bracket : (u : Kinds) → MeansAll (RefList ∷ Token RBracket ∷ []) u → Phrase refs (LBracket ∷ u)
refs_bracket u m = let t = then_token RefList RBracket u m in
    subst (λ z. Phrase refs (LBracket ∷ z)) t.1 (listed_refs t.2)

first_ref : (k : TokenKind) (u : Kinds) → is_ident k ≡ true → MeansAll (RefTail ∷ RefListTail ∷ []) u
    → Phrase ref_list (k ∷ u)
first_ref k u h (a, b, e, p, m) = let q = last RefListTail b m in rw e (q (k ∷ a) (p k h))

string_ref : (u : Kinds) → MeansAll (RefListTail ∷ []) u → Phrase ref_list (StringLit ∷ u)
string_ref u m = let q = last RefListTail u m in q (StringLit ∷ []) (plain_ref string_name)

path_ref : (k : TokenKind) (u : Kinds) → is_ident k ≡ true → Means RefStep u → Phrase ref (k ∷ PathSep ∷ u)
path_ref k u h f = let t = f k h in subst (Phrase ref) t.whole (typed_ref t.is)

step_on : (k : TokenKind) (u : Kinds) → is_ident k ≡ true → MeansAll (Token PathSep ∷ RefStep ∷ []) u
    → Means RefStep (k ∷ u)
step_on k u h (a, b, e, c, m) i g =
    let t = last RefStep b m k h in
    record {
      front = i ∷ PathSep ∷ t.front;
      is = more_steps g t.is;
      whole = rw (e, c) (ap (λ z. i ∷ PathSep ∷ z) t.whole);
    }

step_string : (u : Kinds) → u ≡ [] → Means RefStep (StringLit ∷ u)
step_string u n i g = record { front = i ∷ []; is = one_step g; whole = rw n refl }

set_angle : (u : Kinds) → MeansAll (AnyType ∷ Token Greater ∷ []) u → Phrase ty (KwSet ∷ Less ∷ u)
set_angle u m = let t = then_token AnyType Greater u m in subst (λ z. Phrase ty (KwSet ∷ Less ∷ z)) t.1 (set_type t.2)

bare_attr : (k : TokenKind) (a b : Kinds) → is_name_kind k ≡ true → Phrase mark a → Phrase ty b
    → Phrase attr (k ∷ (a ++ Colon ∷ b))
bare_attr k a b h p t = one_attr no_ann (one_token k h) p t

attr_row : (k : TokenKind) (u : Kinds) → is_name_kind k ≡ true → MeansAll (Mark ∷ Token Colon ∷ AnyType ∷ []) u
    → Phrase attr (k ∷ u)
attr_row k u h (a, u1, e1, p, (b, u2, e2, c, m)) = rw (e1, e2, c) (bare_attr k a u2 h p (last AnyType u2 m))

first_attr : (k : TokenKind) (u : Kinds) → is_name_kind k ≡ true
    → MeansAll (Mark ∷ Token Colon ∷ AnyType ∷ AttrsTail ∷ []) u → Phrase attrs (k ∷ u)
first_attr k u h (a, u1, e1, p, (b, u2, e2, c, (d, u3, e3, t, m))) =
    let more = last AttrsTail u3 m in
    let whole : (k ∷ (a ++ Colon ∷ d)) ++ u3 ≡ k ∷ u = rw (e1, e2, c, e3) (simp append_assoc refl) in
    subst (Phrase attrs) whole (more (k ∷ (a ++ Colon ∷ d)) (bare_attr k a d h p t))

grows : (x : Symbol) → GrowsAll x (rows x)
grows (Token j) = ((λ k u e m. at_one j k (λ i. i ∷ u ≡ j ∷ []) e (ap (λ v. j ∷ v) m)), tt)
grows Schema = (
  (λ k u e m. at_one At k (λ j. Phrase schema (j ∷ u)) e (schema_at u m)),
  (
    (λ k u e m. at_one KwNamespace k (λ j. Phrase schema (j ∷ u)) e (schema_namespace u m)),
    (
      (λ k u e m. at_one KwEntity k (λ j. Phrase schema (j ∷ u)) e (schema_decl KwEntity AfterEntity u (λ a p. p) m)),
      (
        (λ k u e m. at_one KwExternal k (λ j. Phrase schema (j ∷ u)) e
            (schema_decl KwExternal AfterExternal u (λ a p. p) m)),
        (
          (λ k u e m. at_one KwAction k (λ j. Phrase schema (j ∷ u)) e
              (schema_decl KwAction AfterAction u (λ a p. p) m)),
          (
            (λ k u e m. at_one KwType k (λ j. Phrase schema (j ∷ u)) e
                (schema_decl KwType AfterType u (λ a p. p) m)),
            tt,
          ),
        ),
      ),
    ),
  ),
)
grows Item = (
  (λ k u e m. at_one At k (λ j. Phrase item (j ∷ u)) e (item_at u m)),
  (
    (λ k u e m. at_one KwNamespace k (λ j. Phrase item (j ∷ u)) e (last AfterNamespace u m)),
    (
      (λ k u e m. at_one KwEntity k (λ j. Phrase item (j ∷ u)) e (item_decl KwEntity AfterEntity u (λ a p. p) m)),
      (
        (λ k u e m. at_one KwExternal k (λ j. Phrase item (j ∷ u)) e
            (item_decl KwExternal AfterExternal u (λ a p. p) m)),
        (
          (λ k u e m. at_one KwAction k (λ j. Phrase item (j ∷ u)) e (item_decl KwAction AfterAction u (λ a p. p) m)),
          ((λ k u e m. at_one KwType k (λ j. Phrase item (j ∷ u)) e (item_decl KwType AfterType u (λ a p. p) m)), tt),
        ),
      ),
    ),
  ),
)
grows Decls = (
  (λ k u e m. at_one At k (λ j. Phrase decls (j ∷ u)) e (decls_at u m)),
  (
    (λ k u e m. at_one KwEntity k (λ j. Phrase decls (j ∷ u)) e (decls_decl KwEntity AfterEntity u (λ a p. p) m)),
    (
      (λ k u e m. at_one KwExternal k (λ j. Phrase decls (j ∷ u)) e
          (decls_decl KwExternal AfterExternal u (λ a p. p) m)),
      (
        (λ k u e m. at_one KwAction k (λ j. Phrase decls (j ∷ u)) e (decls_decl KwAction AfterAction u (λ a p. p) m)),
        ((λ k u e m. at_one KwType k (λ j. Phrase decls (j ∷ u)) e (decls_decl KwType AfterType u (λ a p. p) m)), tt),
      ),
    ),
  ),
)
grows Decl = (
  (λ k u e m. at_one At k (λ j. Phrase decl (j ∷ u)) e (decl_at u m)),
  (
    (λ k u e m. at_one KwEntity k (λ j. Phrase decl (j ∷ u)) e (decl_decl KwEntity AfterEntity u (λ a p. p) m)),
    (
      (λ k u e m. at_one KwExternal k (λ j. Phrase decl (j ∷ u)) e
          (decl_decl KwExternal AfterExternal u (λ a p. p) m)),
      (
        (λ k u e m. at_one KwAction k (λ j. Phrase decl (j ∷ u)) e (decl_decl KwAction AfterAction u (λ a p. p) m)),
        ((λ k u e m. at_one KwType k (λ j. Phrase decl (j ∷ u)) e (decl_decl KwType AfterType u (λ a p. p) m)), tt),
      ),
    ),
  ),
)
grows AnnotationTail = ((λ k u e m. at_one LParen k (λ j. Value (j ∷ u)) e (value u m)), tt)
grows AfterNamespace = ((λ k u e m. namespace_row k u e m), tt)
grows AfterEntity = ((λ k u e m. entity_row k u e m), tt)
grows EntityTail = (
  (λ k u e m. at_one KwIn k (λ j. Means EntityTail (j ∷ u)) e (in_row u m)),
  (
    (λ k u e m. at_one Equals k (λ j. Means EntityTail (j ∷ u)) e (equals_row u m)),
    (
      (λ k u e m. at_one LBrace k (λ j. Means EntityTail (j ∷ u)) e (brace_row u m)),
      (
        (λ k u e m. at_one KwTags k (λ j. Means EntityTail (j ∷ u)) e (tags_row u m)),
        (
          (λ k u e m. at_one KwEnum k (λ j. Means EntityTail (j ∷ u)) e (enum_row u m)),
          (
            (λ k u e m. at_one Semi k (λ j. Means EntityTail (j ∷ u)) e
                (rw m (parts [] [] [] no_parents no_shape no_tags))),
            tt,
          ),
        ),
      ),
    ),
  ),
)
grows AfterExternal = (
  (λ k u e m. at_one KwEntity k (λ j. Phrase bare_decl (KwExternal ∷ j ∷ u)) e
      (external_entity_row u m)),
  (
    (λ k u e m. at_one KwAction k (λ j. Phrase bare_decl (KwExternal ∷ j ∷ u)) e
        (external_action_row u m)),
    tt,
  ),
)
grows AfterAction = ((λ k u e m. action_row k u e m), tt)
grows AfterType = ((λ k u e m. type_row k u e m), tt)
grows Word = ((λ k u e m. (k, ap (λ v. k ∷ v) m, e)), tt)
grows Ident = ((λ k u e m. (k, ap (λ v. k ∷ v) m, e)), tt)
grows IdentsTail = (
  (λ k u e m. at_one Comma k (λ j. (i : TokenKind) → is_ident i ≡ true → Phrase idents (i ∷ j ∷ u))
      e (λ i h. more_ident i u m h)),
  tt,
)
grows Name = ((λ k u e m. rw m (one_token k e)), tt)
grows NamesTail = ((λ k u e m. at_one Comma k (λ j. After name names (j ∷ u)) e (λ a p. more_name u m a p)), tt)
grows ParentsTail = ((λ k u e m. at_one KwIn k (λ j. Phrase parents (j ∷ u)) e (in_parents (last Types u m))), tt)
grows ShapeTail = (
  (λ k u e m. at_one Equals k (λ j. Phrase shape (j ∷ u)) e (equals_shape (last Record u m))),
  ((λ k u e m. at_one LBrace k (λ j. Phrase shape (j ∷ u)) e (braced (Phrase shape) u (λ a p. bare_shape p) m)), tt),
)
grows TagsTail = ((λ k u e m. at_one KwTags k (λ j. Phrase tags (j ∷ u)) e (some_tags (last AnyType u m))), tt)
grows Strings = ((λ k u e m. at_one StringLit k (λ j. Phrase strings (j ∷ u)) e (last StringsTail u m)), tt)
grows StringsTail = (
  (λ k u e m. at_one Comma k (λ j. Phrase strings (StringLit ∷ j ∷ u)) e
      (more_strings (last Strings u m))),
  tt,
)
grows RefsTail = ((λ k u e m. at_one KwIn k (λ j. Phrase in_refs (j ∷ u)) e (some_refs (last Refs u m))), tt)
grows AppliesTail = ((λ k u e m. at_one KwAppliesTo k (λ j. Phrase applies (j ∷ u)) e (applies_row u m)), tt)
grows Apps = (
  (λ k u e m. at_one KwPrincipal k (λ j. Phrase apps (j ∷ u)) e
      (app_row KwPrincipal Types u (λ a p. principal_app p) m)),
  (
    (λ k u e m. at_one KwResource k (λ j. Phrase apps (j ∷ u)) e
        (app_row KwResource Types u (λ a p. resource_app p) m)),
    ((λ k u e m. at_one KwContext k (λ j. Phrase apps (j ∷ u)) e (app_row KwContext ContextType u (λ a p. p) m)), tt),
  ),
)
grows AppsTail = ((λ k u e m. at_one Comma k (λ j. After app apps (j ∷ u)) e (λ a p. more_apps p (last Apps u m))), tt)
grows ContextType = (
  (λ k u e m. context_path (last PathTail u m k e)),
  (
    (λ k u e m. at_one LBrace k (λ j. Phrase app (KwContext ∷ Colon ∷ j ∷ u)) e
        (braced (λ a. Phrase app (KwContext ∷ Colon ∷ a)) u (λ a p. context_record p) m)),
    tt,
  ),
)
grows PathTail = (
  (λ k u e m. at_one PathSep k (λ j. (i : TokenKind) → is_ident i ≡ true → Phrase path (i ∷ j ∷ u)) e
      (λ i h. more_step i u m h)),
  tt,
)
grows Types = (
  (λ k u e m. one_type (last PathTail u m k e)),
  ((λ k u e m. at_one LBracket k (λ j. Phrase types (j ∷ u)) e (types_bracket u m)), tt),
)
grows Paths = ((λ k u e m. first_path k u e m), tt)
grows PathsTail = (
  (λ k u e m. at_one Comma k (λ j. After path paths (j ∷ u)) e
      (λ a p. more_paths p (last Paths u m))),
  tt,
)
grows Refs = (
  (λ k u e m. one_ref (last RefTail u m k e)),
  (
    (λ k u e m. at_one StringLit k (λ j. Phrase refs (j ∷ u)) e (rw m (one_ref (plain_ref string_name)))),
    ((λ k u e m. at_one LBracket k (λ j. Phrase refs (j ∷ u)) e (refs_bracket u m)), tt),
  ),
)
grows RefList = (
  (λ k u e m. first_ref k u e m),
  ((λ k u e m. at_one StringLit k (λ j. Phrase ref_list (j ∷ u)) e (string_ref u m)), tt),
)
grows RefListTail = (
  (λ k u e m. at_one Comma k (λ j. After ref ref_list (j ∷ u)) e
      (λ a p. more_refs p (last RefList u m))),
  tt,
)
grows RefTail = (
  (λ k u e m. at_one PathSep k (λ j. (i : TokenKind) → is_ident i ≡ true → Phrase ref (i ∷ j ∷ u)) e
      (λ i h. path_ref i u h (last RefStep u m))),
  tt,
)
grows RefStep = (
  (λ k u e m. step_on k u e m),
  ((λ k u e m. at_one StringLit k (λ j. Means RefStep (j ∷ u)) e (step_string u m)), tt),
)
grows AnyType = (
  (λ k u e m. at_one KwSet k (λ j. Phrase ty (j ∷ u)) e (last SetTail u m)),
  (
    (λ k u e m. path_type (last PathTail u m k e)),
    ((λ k u e m. at_one LBrace k (λ j. Phrase ty (j ∷ u)) e (braced (Phrase ty) u (λ a p. record_type p) m)), tt),
  ),
)
grows SetTail = (
  (λ k u e m. at_one Less k (λ j. Phrase ty (KwSet ∷ j ∷ u)) e (set_angle u m)),
  ((λ k u e m. at_one PathSep k (λ j. Phrase ty (KwSet ∷ j ∷ u)) e (path_type (more_step KwSet u m refl))), tt),
)
grows Record = ((λ k u e m. at_one LBrace k (λ j. Phrase rec (j ∷ u)) e (braced (Phrase rec) u (λ a p. p) m)), tt)
grows Attrs = (
  (λ k u e m. first_attr k u e m),
  ((λ k u e m. at_one At k (λ j. Phrase attrs (j ∷ u)) e (attrs_at u m)), tt),
)
grows AttrsTail = (
  (λ k u e m. at_one Comma k (λ j. After attr attrs (j ∷ u)) e
      (λ a p. more_attrs p (last Attrs u m))),
  tt,
)
grows Attr = ((λ k u e m. attr_row k u e m), ((λ k u e m. at_one At k (λ j. Phrase attr (j ∷ u)) e (attr_at u m)), tt))
grows Mark = ((λ k u e m. at_one Question k (λ j. Phrase mark (j ∷ u)) e (rw m question)), tt)

empties : (x : Symbol) → is_nullable x ≡ true → Means x []
empties (Token j) n = cc
empties Schema n = no_item
empties Item n = cc
empties Decls n = no_decl
empties Decl n = cc
empties AnnotationTail n = λ k a h p. bare_ann h p
empties AfterNamespace n = cc
empties AfterEntity n = cc
empties EntityTail n = cc
empties AfterExternal n = cc
empties AfterAction n = cc
empties AfterType n = cc
empties Word n = cc
empties Ident n = cc
empties IdentsTail n = λ i h. one_ident h
empties Name n = cc
empties NamesTail n = λ a p. subst (Phrase names) (sym (append_nil a)) (one_name p)
empties ParentsTail n = no_parents
empties ShapeTail n = no_shape
empties TagsTail n = no_tags
empties Strings n = no_string
empties StringsTail n = last_string
empties RefsTail n = no_refs
empties AppliesTail n = no_applies
empties Apps n = no_app
empties AppsTail n = λ a p. subst (Phrase apps) (sym (append_nil a)) (last_app p)
empties ContextType n = cc
empties PathTail n = λ i h. one_step h
empties Types n = cc
empties Paths n = no_path
empties PathsTail n = λ a p. subst (Phrase paths) (sym (append_nil a)) (last_path p)
empties Refs n = cc
empties RefList n = no_ref
empties RefListTail n = λ a p. subst (Phrase ref_list) (sym (append_nil a)) (last_ref p)
empties RefTail n = λ i h. plain_ref (ident_name h)
empties RefStep n = cc
empties AnyType n = cc
empties SetTail n = path_type (one_step refl)
empties Record n = cc
empties Attrs n = no_attr
empties AttrsTail n = λ a p. subst (Phrase attrs) (sym (append_nil a)) (last_attr p)
empties Attr n = cc
empties Mark n = no_mark

meant : {s : List Symbol} {w : Kinds} → Forest s w → MeansAll s w
unfolding after_front
meant nothing = refl
meant {w = w} (skip {x = x} n f) = ([], w, refl, empties x n, meant f)
meant (take {x = x} {k = k} {next = next} {u = u} {v = v} g f h) =
    (k ∷ u, v, refl, grown x (rows x) k next u (grows x) g (meant f), meant h)

pub forest_sentence : {w : Kinds} → Forest (Schema ∷ []) w → Phrase schema w
forest_sentence {w = w} f = last Schema w (meant f)
