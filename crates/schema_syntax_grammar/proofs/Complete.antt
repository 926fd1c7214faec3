-- Each phrase of the grammar is read by the table.
use Rattle.std.proofs.Common.{◌≡◌, List, [], ◌∷◌, ◌++◌, Bool, true, Some, refl, ap, append_assoc, ◌⊎◌, inl, inr}
use Rattle.schema_syntax_grammar.specs.declared.token_kind.TokenKind.{TokenKind}
use Rattle.schema_syntax_grammar.specs.declared.token_kind.TokenKind.TheVariants.{KwNamespace, KwEntity, KwExternal}
use Rattle.schema_syntax_grammar.specs.declared.token_kind.TokenKind.TheVariants.{KwType, KwSet, KwAppliesTo}
use Rattle.schema_syntax_grammar.specs.declared.token_kind.TokenKind.TheVariants.{KwPrincipal, KwAction, KwResource}
use Rattle.schema_syntax_grammar.specs.declared.token_kind.TokenKind.TheVariants.{KwContext, KwTags, KwEnum, Identifier}
use Rattle.schema_syntax_grammar.specs.declared.token_kind.TokenKind.TheVariants.{StringLit, At, Comma, Semi, Colon}
use Rattle.schema_syntax_grammar.specs.declared.token_kind.TokenKind.TheVariants.{PathSep, LParen, RParen, LBrace}
use Rattle.schema_syntax_grammar.specs.declared.token_kind.TokenKind.TheVariants.{RBrace, LBracket, RBracket, Less}
use Rattle.schema_syntax_grammar.specs.declared.token_kind.TokenKind.TheVariants.{Greater, Equals}
use Rattle.schema_syntax_grammar.specs.declared.symbol.Symbol.{Symbol}
use Rattle.schema_syntax_grammar.specs.declared.symbol.Symbol.TheVariants.{Token, Schema, Item, Decls, Decl}
use Rattle.schema_syntax_grammar.specs.declared.symbol.Symbol.TheVariants.{AnnotationTail, AfterNamespace, AfterEntity}
use Rattle.schema_syntax_grammar.specs.declared.symbol.Symbol.TheVariants.{EntityTail, AfterExternal, AfterAction}
use Rattle.schema_syntax_grammar.specs.declared.symbol.Symbol.TheVariants.{AfterType, Word, Ident, IdentsTail, Name}
use Rattle.schema_syntax_grammar.specs.declared.symbol.Symbol.TheVariants.{NamesTail, ParentsTail, ShapeTail, TagsTail}
use Rattle.schema_syntax_grammar.specs.declared.symbol.Symbol.TheVariants.{Strings, StringsTail, RefsTail, AppliesTail}
use Rattle.schema_syntax_grammar.specs.declared.symbol.Symbol.TheVariants.{Apps, AppsTail, ContextType, PathTail, Types}
use Rattle.schema_syntax_grammar.specs.declared.symbol.Symbol.TheVariants.{Paths, PathsTail, Refs, RefList, RefListTail}
use Rattle.schema_syntax_grammar.specs.declared.symbol.Symbol.TheVariants.{RefTail, RefStep, AnyType, SetTail, Record}
use Rattle.schema_syntax_grammar.specs.declared.symbol.Symbol.TheVariants.{Attrs, AttrsTail, Attr, Mark}
use Rattle.schema_syntax_grammar.specs.Grammar.{is_word_kind, is_ident, Nonterminal, schema, item, decls, decl}
use Rattle.schema_syntax_grammar.specs.Grammar.{bare_decl}
use Rattle.schema_syntax_grammar.specs.Grammar.{idents, parents, shape, tags, strings, names, name, in_refs, applies}
use Rattle.schema_syntax_grammar.specs.Grammar.{apps, app, types, paths, refs, ref_list, ref, ty, rec, attrs, attr}
use Rattle.schema_syntax_grammar.specs.Grammar.{mark, path, anns, Phrase, no_item, more_items, namespace_item}
use Rattle.schema_syntax_grammar.specs.Grammar.{decl_item, no_decl, more_decls, annotated, entity_decl, enum_decl}
use Rattle.schema_syntax_grammar.specs.Grammar.{external_entity, action_decl, external_action, common_decl, one_ident}
use Rattle.schema_syntax_grammar.specs.Grammar.{more_idents, no_parents, in_parents, no_shape, bare_shape, equals_shape}
use Rattle.schema_syntax_grammar.specs.Grammar.{no_tags, some_tags, no_string, last_string, more_strings, one_name}
use Rattle.schema_syntax_grammar.specs.Grammar.{more_names, ident_name, string_name, no_refs, some_refs, no_applies}
use Rattle.schema_syntax_grammar.specs.Grammar.{some_applies, no_app, last_app, more_apps, principal_app, resource_app}
use Rattle.schema_syntax_grammar.specs.Grammar.{context_path, context_record, one_type, listed_types, no_path}
use Rattle.schema_syntax_grammar.specs.Grammar.{last_path, more_paths, one_ref, listed_refs, no_ref, last_ref}
use Rattle.schema_syntax_grammar.specs.Grammar.{more_refs, plain_ref, typed_ref, path_type, set_type, record_type}
use Rattle.schema_syntax_grammar.specs.Grammar.{braces, no_attr, last_attr, more_attrs, one_attr, no_mark, question}
use Rattle.schema_syntax_grammar.specs.Grammar.{one_step, more_steps, no_ann, bare_ann, valued_ann, is_name_kind}
use Rattle.schema_syntax_grammar.specs.Table.{after_front}
use Rattle.schema_syntax_grammar.proofs.Stops.{after_token}
use Rattle.schema_syntax_grammar.proofs.Theory.{Forest, nothing, skip, take, takes}

token : {k : TokenKind} {s : List Symbol} {w : List TokenKind} → Forest s w → Forest (Token k ∷ s) (k ∷ w)
token {k = k} f = take (after_token k) nothing f

abbrev Reads : List Symbol → List TokenKind → Type 0
Reads a w = (s : List Symbol) (v : List TokenKind) → Forest s v → Forest (a ++ s) (w ++ v)

-- a first token that passes a test, and then what the symbol stands for
record FirstThen (test : TokenKind → Bool) (x : Symbol) (w : List TokenKind) : Type 0 where
  first : TokenKind
  rest : List TokenKind
  whole : w ≡ first ∷ rest
  is : test first ≡ true
  then_ : Reads (x ∷ []) rest

-- a path, which may also be the front of an action's name
record PathThen (w : List TokenKind) : Type 0 where
  first : TokenKind
  rest : List TokenKind
  whole : w ≡ first ∷ rest
  is : is_ident first ≡ true
  then_ : Reads (PathTail ∷ []) rest
  typed : (s : List Symbol) (v : List TokenKind) → Forest s v → Forest (RefTail ∷ s) (rest ++ PathSep ∷ StringLit ∷ v)
  further : (s : List Symbol) (v : List TokenKind) → Forest s v
      → Forest (RefStep ∷ s) (first ∷ (rest ++ PathSep ∷ StringLit ∷ v))

-- a record, without its brace
record BraceThen (w : List TokenKind) : Type 0 where
  rest : List TokenKind
  whole : w ≡ LBrace ∷ rest
  then_ : Reads (Attrs ∷ Token RBrace ∷ []) rest

-- a declaration, without its first word
record DeclThen (w : List TokenKind) : Type 0 where
  first : TokenKind
  after : Symbol
  rest : List TokenKind
  whole : w ≡ first ∷ rest
  at_schema : after_front Schema first ≡ Some (after ∷ Schema ∷ [])
  at_item : after_front Item first ≡ Some (after ∷ [])
  at_decls : after_front Decls first ≡ Some (after ∷ Decls ∷ [])
  at_decl : after_front Decl first ≡ Some (after ∷ [])
  then_ : Reads (after ∷ []) rest

-- a name of one token
record IsNameOf (w : List TokenKind) : Type 0 where
  only : TokenKind
  whole : w ≡ only ∷ []
  is : is_name_kind only ≡ true

-- annotations, before a symbol that may begin with one, where y is what it is after the first
abbrev Annotates : List TokenKind → Type 0
Annotates w = (x y : Symbol) (a : List Symbol) → after_front x At ≡ Some (Word ∷ AnnotationTail ∷ y ∷ a)
    → after_front y At ≡ Some (Word ∷ AnnotationTail ∷ y ∷ []) → (s : List Symbol) (v : List TokenKind)
    → Forest (y ∷ (a ++ s)) v → Forest (x ∷ s) v → Forest (x ∷ s) (w ++ v)

-- one more at the front of a list of such
abbrev Adds : Symbol → Symbol → List TokenKind → Type 0
Adds x tail w = (s : List Symbol) (v : List TokenKind) → Forest (tail ∷ s) v → Forest (x ∷ s) (w ++ v)

-- a part of an entity's declaration, of which any may be left out
abbrev Tails : List Symbol → List TokenKind → Type 0
Tails a w = (s : List Symbol) (v : List TokenKind) → Forest (a ++ s) v → Forest (EntityTail ∷ s) v
    → Forest (EntityTail ∷ s) (w ++ v)

-- what a phrase is for the table
abbrev Built : Nonterminal → List TokenKind → Type 0
Built schema w = Reads (Schema ∷ []) w
Built item w = Adds Schema Schema w
Built decls w = Reads (Decls ∷ []) w
Built decl w = Adds Schema Schema w × Adds Decls Decls w
Built bare_decl w = DeclThen w
Built idents w = FirstThen is_ident IdentsTail w
Built parents w = Reads (ParentsTail ∷ []) w × Tails (ShapeTail ∷ TagsTail ∷ Token Semi ∷ []) w
Built shape w = Reads (ShapeTail ∷ []) w × Tails (TagsTail ∷ Token Semi ∷ []) w
Built tags w = Reads (TagsTail ∷ []) w
    × ((s : List Symbol) (v : List TokenKind) → Forest s v → Forest (EntityTail ∷ s) (w ++ Semi ∷ v))
Built strings w = Reads (Strings ∷ []) w
Built names w = FirstThen is_name_kind NamesTail w
Built name w = IsNameOf w
Built in_refs w = Reads (RefsTail ∷ []) w
Built applies w = Reads (AppliesTail ∷ []) w
Built apps w = Reads (Apps ∷ []) w
Built app w = Adds Apps AppsTail w
Built types w = Reads (Types ∷ []) w
Built paths w = Reads (Paths ∷ []) w
Built refs w = Reads (Refs ∷ []) w
Built ref_list w = Reads (RefList ∷ []) w
Built ref w = Reads (Refs ∷ []) w × Adds RefList RefListTail w
Built ty w = Reads (AnyType ∷ []) w
Built rec w = BraceThen w
Built attrs w = Reads (Attrs ∷ []) w
Built attr w = Adds Attrs AttrsTail w
Built mark w = Reads (Mark ∷ []) w
Built path w = PathThen w
Built anns w = Annotates w

-- the first words of symbols, where the word is not known

at_word : (k : TokenKind) → is_word_kind k ≡ true → after_front Word k ≡ Some []
unfolding after_front
at_word k h = rw h refl

at_ident : (k : TokenKind) → is_ident k ≡ true → after_front Ident k ≡ Some []
unfolding after_front
at_ident k h = rw h refl

at_name : (k : TokenKind) → is_name_kind k ≡ true → after_front Name k ≡ Some []
unfolding after_front
at_name k h = rw h refl

at_namespace : (k : TokenKind) → is_ident k ≡ true
    → after_front AfterNamespace k ≡ Some (PathTail ∷ Token LBrace ∷ Decls ∷ Token RBrace ∷ [])
unfolding after_front
at_namespace k h = rw h refl

at_entity : (k : TokenKind) → is_ident k ≡ true → after_front AfterEntity k ≡ Some (IdentsTail ∷ EntityTail ∷ [])
unfolding after_front
at_entity k h = rw h refl

at_action : (k : TokenKind) → is_name_kind k ≡ true
    → after_front AfterAction k ≡ Some (NamesTail ∷ RefsTail ∷ AppliesTail ∷ Token Semi ∷ [])
unfolding after_front
at_action k h = rw h refl

at_type : (k : TokenKind) → is_ident k ≡ true
    → after_front AfterType k ≡ Some (Token Equals ∷ AnyType ∷ Token Semi ∷ [])
unfolding after_front
at_type k h = rw h refl

at_context : (k : TokenKind) → is_ident k ≡ true → after_front ContextType k ≡ Some (PathTail ∷ [])
unfolding after_front
at_context k h = rw h refl

at_types : (k : TokenKind) → is_ident k ≡ true → after_front Types k ≡ Some (PathTail ∷ [])
unfolding after_front
at_types k h = rw h refl

at_paths : (k : TokenKind) → is_ident k ≡ true → after_front Paths k ≡ Some (PathTail ∷ PathsTail ∷ [])
unfolding after_front
at_paths k h = rw h refl

at_refs : (k : TokenKind) → is_ident k ≡ true → after_front Refs k ≡ Some (RefTail ∷ [])
unfolding after_front
at_refs k h = rw h refl

at_ref_list : (k : TokenKind) → is_ident k ≡ true → after_front RefList k ≡ Some (RefTail ∷ RefListTail ∷ [])
unfolding after_front
at_ref_list k h = rw h refl

at_ref_step : (k : TokenKind) → is_ident k ≡ true → after_front RefStep k ≡ Some (Token PathSep ∷ RefStep ∷ [])
unfolding after_front
at_ref_step k h = rw h refl

at_attrs : (k : TokenKind) → is_name_kind k ≡ true
    → after_front Attrs k ≡ Some (Mark ∷ Token Colon ∷ AnyType ∷ AttrsTail ∷ [])
unfolding after_front
at_attrs k h = rw h refl

at_attr : (k : TokenKind) → is_name_kind k ≡ true → after_front Attr k ≡ Some (Mark ∷ Token Colon ∷ AnyType ∷ [])
unfolding after_front
at_attr k h = rw h refl

name_cases : (k : TokenKind) → is_name_kind k ≡ true → (is_ident k ≡ true) ⊎ (k ≡ StringLit)
name_cases StringLit h = inr refl
name_cases k h = inl h

pub ident_is_name : (k : TokenKind) → is_ident k ≡ true → is_name_kind k ≡ true
ident_is_name StringLit h = refl
ident_is_name k h = h

-- `Set` in a type, where no `<` comes

path_set : (k : TokenKind) (next : List Symbol) → after_front PathTail k ≡ Some next
    → after_front SetTail k ≡ Some next
unfolding after_front
path_set PathSep next g = g
path_set Less next g = cc
path_set _ next g = g

to_set : (s : List Symbol) (w : List TokenKind) → Forest (PathTail ∷ s) w → Forest (SetTail ∷ s) w
to_set s w (skip n f) = skip refl f
to_set s w (take {k = k} {next = next} g f h) = take (path_set k next g) f h

path_type_at : (i : TokenKind) (s : List Symbol) (w : List TokenKind) → is_ident i ≡ true → Forest (PathTail ∷ s) w
    → Forest (AnyType ∷ s) (i ∷ w)
unfolding after_front
path_type_at KwSet s w h f = takes {next = SetTail ∷ []} refl (to_set s w f)
path_type_at KwNamespace s w h f = takes {next = PathTail ∷ []} refl f
path_type_at KwEntity s w h f = takes {next = PathTail ∷ []} refl f
path_type_at KwExternal s w h f = takes {next = PathTail ∷ []} refl f
path_type_at KwType s w h f = takes {next = PathTail ∷ []} refl f
path_type_at KwAppliesTo s w h f = takes {next = PathTail ∷ []} refl f
path_type_at KwPrincipal s w h f = takes {next = PathTail ∷ []} refl f
path_type_at KwAction s w h f = takes {next = PathTail ∷ []} refl f
path_type_at KwResource s w h f = takes {next = PathTail ∷ []} refl f
path_type_at KwContext s w h f = takes {next = PathTail ∷ []} refl f
path_type_at KwTags s w h f = takes {next = PathTail ∷ []} refl f
path_type_at KwEnum s w h f = takes {next = PathTail ∷ []} refl f
path_type_at Identifier s w h f = takes {next = PathTail ∷ []} refl f
path_type_at _ s w h f = cc

-- an action's name of one token, before what comes after it

ref_name : (k : TokenKind) (s : List Symbol) (v : List TokenKind) → is_name_kind k ≡ true → Forest s v
    → Forest (Refs ∷ s) (k ∷ v)
unfolding after_front
ref_name k s v h f = elim (name_cases k h) [
  | inl i ↦ takes (at_refs k i) (skip refl f)
  | inr e ↦ rw e (takes {next = []} refl f)
]

list_name : (k : TokenKind) (s : List Symbol) (v : List TokenKind) → is_name_kind k ≡ true
    → Forest (RefListTail ∷ s) v → Forest (RefList ∷ s) (k ∷ v)
unfolding after_front
list_name k s v h f = elim (name_cases k h) [
  | inl i ↦ takes (at_ref_list k i) (skip refl f)
  | inr e ↦ rw e (takes {next = RefListTail ∷ []} refl f)
]

ident : {i : TokenKind} {s : List Symbol} {w : List TokenKind} → is_ident i ≡ true → Forest s w
    → Forest (Ident ∷ s) (i ∷ w)
ident {i = i} h f = take (at_ident i h) nothing f

-- one annotation more, where u is its value
annotation : (k : TokenKind) (x y : Symbol) (a s : List Symbol) (w : List TokenKind)
    → after_front x At ≡ Some (Word ∷ AnnotationTail ∷ y ∷ a) → is_word_kind k ≡ true
    → Forest (AnnotationTail ∷ y ∷ (a ++ s)) w → Forest (x ∷ s) (At ∷ k ∷ w)
annotation k x y a s w g h f = takes g (take (at_word k h) nothing f)

built : {p : Nonterminal} {w : List TokenKind} → Phrase p w → Built p w
unfolding after_front
built no_item = λ s v f. skip refl f
built (more_items {a = a} {b = b} d r) = λ s v f. rw (append_assoc a b v) (built d s (b ++ v) (built r s v f))
built (namespace_item {a = a} {p = p} {d = d} n q r) =
    let first = built q in
    λ s v f.
    let inside = λ (t : List Symbol) (g : Forest t v). takes {x = AfterNamespace} {k = first.first}
    (at_namespace first.first first.is)
    (first.then_ (Token LBrace ∷ Decls ∷ Token RBrace ∷ t) (LBrace ∷ (d ++ RBrace ∷ v))
    (token (built r (Token RBrace ∷ t) (RBrace ∷ v) (token g)))) in
    simp append_assoc
    (rw first.whole
    (built n Schema Item (Schema ∷ []) refl refl s
    (KwNamespace ∷ first.first ∷ (first.rest ++ LBrace ∷ (d ++ RBrace ∷ v)))
    (takes {next = AfterNamespace ∷ []} refl (inside (Schema ∷ s) f))
    (takes {next = AfterNamespace ∷ Schema ∷ []} refl (inside (Schema ∷ s) f))))
built (decl_item r) = (built r).0
built no_decl = λ s v f. skip refl f
built (more_decls {a = a} {b = b} d r) = λ s v f. rw (append_assoc a b v) ((built d).1 s (b ++ v) (built r s v f))
built (annotated {a = a} {b = b} n r) =
    let d = built r in (
      (λ s v f. rw (d.whole, append_assoc)
          (built n Schema Item (Schema ∷ []) refl refl s (d.first ∷ (d.rest ++ v))
          (takes d.at_item (d.then_ (Schema ∷ s) v f)) (takes d.at_schema (d.then_ (Schema ∷ s) v f)))),
      (λ s v f. rw (d.whole, append_assoc)
          (built n Decls Decl (Decls ∷ []) refl refl s (d.first ∷ (d.rest ++ v))
          (takes d.at_decl (d.then_ (Decls ∷ s) v f)) (takes d.at_decls (d.then_ (Decls ∷ s) v f)))),
    )
built (entity_decl {i = i} {p = p} {s = s} {t = t} n q r u) =
    let first = built n in
    record {
      first = KwEntity;
      after = AfterEntity;
      rest = i ++ (p ++ (s ++ (t ++ Semi ∷ [])));
      whole = refl;
      at_schema = refl;
      at_item = refl;
      at_decls = refl;
      at_decl = refl;
      then_ = λ z v f.
          let tag_end = (built u).1 z v f in
          let tag_rest = (built u).0 (Token Semi ∷ z) (Semi ∷ v) (token f) in
          let shape_end = (built r).1 z (t ++ Semi ∷ v) tag_rest tag_end in
          let shape_rest = (built r).0 (TagsTail ∷ Token Semi ∷ z) (t ++ Semi ∷ v) tag_rest in
          let tail = (built q).1 z (s ++ (t ++ Semi ∷ v)) shape_rest shape_end in
          simp append_assoc (rw first.whole
          (takes (at_entity first.first first.is) (first.then_ (EntityTail ∷ z) (p ++ (s ++ (t ++ Semi ∷ v))) tail)));
    }
built (enum_decl {i = i} {s = s} n r) =
    let first = built n in
    record {
      first = KwEntity;
      after = AfterEntity;
      rest = i ++ KwEnum ∷ LBracket ∷ (s ++ RBracket ∷ Semi ∷ []);
      whole = refl;
      at_schema = refl;
      at_item = refl;
      at_decls = refl;
      at_decl = refl;
      then_ = λ z v f.
          simp append_assoc
          (rw first.whole
          (takes (at_entity first.first first.is)
          (first.then_ (EntityTail ∷ z) (KwEnum ∷ LBracket ∷ (s ++ RBracket ∷ Semi ∷ v))
          (takes {next = Token LBracket ∷ Strings ∷ Token RBracket ∷ Token Semi ∷ []} refl
          (token (built r (Token RBracket ∷ Token Semi ∷ z) (RBracket ∷ Semi ∷ v) (token (token f))))))));
    }
built (external_entity {i = i} {p = p} n q) =
    let first = built n in
    record {
      first = KwExternal;
      after = AfterExternal;
      rest = KwEntity ∷ (i ++ (p ++ Semi ∷ []));
      whole = refl;
      at_schema = refl;
      at_item = refl;
      at_decls = refl;
      at_decl = refl;
      then_ = λ z v f.
          simp append_assoc
          (rw first.whole
          (takes {next = Ident ∷ IdentsTail ∷ ParentsTail ∷ Token Semi ∷ []} refl
          (ident first.is (first.then_ (ParentsTail ∷ Token Semi ∷ z) (p ++ Semi ∷ v)
          ((built q).0 (Token Semi ∷ z) (Semi ∷ v) (token f))))));
    }
built (action_decl {n = n} {r = r} {a = a} m q u) =
    let first = built m in
    record {
      first = KwAction;
      after = AfterAction;
      rest = n ++ (r ++ (a ++ Semi ∷ []));
      whole = refl;
      at_schema = refl;
      at_item = refl;
      at_decls = refl;
      at_decl = refl;
      then_ = λ z v f.
          simp append_assoc
          (rw first.whole
          (takes (at_action first.first first.is)
          (first.then_ (RefsTail ∷ AppliesTail ∷ Token Semi ∷ z) (r ++ (a ++ Semi ∷ v))
          (built q (AppliesTail ∷ Token Semi ∷ z) (a ++ Semi ∷ v) (built u (Token Semi ∷ z) (Semi ∷ v) (token f))))));
    }
built (external_action {n = n} {r = r} m q) =
    let first = built m in
    record {
      first = KwExternal;
      after = AfterExternal;
      rest = KwAction ∷ (n ++ (r ++ Semi ∷ []));
      whole = refl;
      at_schema = refl;
      at_item = refl;
      at_decls = refl;
      at_decl = refl;
      then_ = λ z v f.
          simp append_assoc
          (rw first.whole
          (takes {next = Name ∷ NamesTail ∷ RefsTail ∷ Token Semi ∷ []} refl
          (take (at_name first.first first.is) nothing
          (first.then_ (RefsTail ∷ Token Semi ∷ z) (r ++ Semi ∷ v) (built q (Token Semi ∷ z) (Semi ∷ v) (token f))))));
    }
built (common_decl {i = i} {t = t} h r) =
    record {
      first = KwType;
      after = AfterType;
      rest = i ∷ Equals ∷ (t ++ Semi ∷ []);
      whole = refl;
      at_schema = refl;
      at_item = refl;
      at_decls = refl;
      at_decl = refl;
      then_ = λ z v f. simp append_assoc (takes (at_type i h) (token (built r (Token Semi ∷ z) (Semi ∷ v) (token f))));
    }
built (one_ident {i = i} h) = record { first = i; rest = []; whole = refl; is = h; then_ = λ s v f. skip refl f }
built (more_idents {i = i} {a = a} h r) =
    let p = built r in
    record {
      first = i;
      rest = Comma ∷ a;
      whole = refl;
      is = h;
      then_ = λ s v f. takes {next = Ident ∷ IdentsTail ∷ []} refl (rw p.whole (ident p.is (p.then_ s v f)));
    }
built no_parents = ((λ s v f. skip refl f), (λ s v f g. g))
built (in_parents r) = (
  (λ s v f. takes {next = Types ∷ []} refl (built r s v f)),
  (λ s v f g. takes {next = Types ∷ ShapeTail ∷ TagsTail ∷ Token Semi ∷ []} refl
      (built r (ShapeTail ∷ TagsTail ∷ Token Semi ∷ s) v f)),
)
built no_shape = ((λ s v f. skip refl f), (λ s v f g. g))
built (bare_shape r) =
    let p = built r in (
      (λ s v f. rw p.whole (takes {next = Attrs ∷ Token RBrace ∷ []} refl (p.then_ s v f))),
      (λ s v f g. rw p.whole (takes {next = Attrs ∷ Token RBrace ∷ TagsTail ∷ Token Semi ∷ []} refl
          (p.then_ (TagsTail ∷ Token Semi ∷ s) v f))),
    )
built (equals_shape r) =
    let p = built r in
    let inside = λ (s : List Symbol) (v : List TokenKind) (f : Forest s v). takes {x = Record} {k = LBrace}
    {next = Attrs ∷ Token RBrace ∷ []} refl (p.then_ s v f) in (
      (λ s v f. rw p.whole (takes {next = Record ∷ []} refl (inside s v f))),
      (λ s v f g. rw p.whole (takes {next = Record ∷ TagsTail ∷ Token Semi ∷ []} refl
          (inside (TagsTail ∷ Token Semi ∷ s) v f))),
    )
built no_tags = ((λ s v f. skip refl f), (λ s v f. takes {next = []} refl f))
built (some_tags r) = (
  (λ s v f. takes {next = AnyType ∷ []} refl (built r s v f)),
  (λ s v f. takes {next = AnyType ∷ Token Semi ∷ []} refl (built r (Token Semi ∷ s) (Semi ∷ v) (token f))),
)
built no_string = λ s v f. skip refl f
built last_string = λ s v f. takes {next = StringsTail ∷ []} refl (skip refl f)
built (more_strings r) = λ s v f. takes {next = StringsTail ∷ []} refl
    (takes {next = Strings ∷ []} refl (built r s v f))
built (one_name r) =
    let p = built r in record { first = p.only; rest = []; whole = p.whole; is = p.is; then_ = λ s v f. skip refl f }
built (more_names {a = a} {b = b} r t) =
    let p = built r in
    let q = built t in
    record {
      first = p.only;
      rest = Comma ∷ b;
      whole = ap (λ z. z ++ Comma ∷ b) p.whole;
      is = p.is;
      then_ = λ s v f. takes {next = Name ∷ NamesTail ∷ []} refl
          (rw q.whole (take (at_name q.first q.is) nothing (q.then_ s v f)));
    }
built (ident_name {i = i} h) = record { only = i; whole = refl; is = ident_is_name i h }
built string_name = record { only = StringLit; whole = refl; is = refl }
built no_refs = λ s v f. skip refl f
built (some_refs r) = λ s v f. takes {next = Refs ∷ []} refl (built r s v f)
built no_applies = λ s v f. skip refl f
built (some_applies r) = λ s v f.
    takes {next = Token LBrace ∷ Apps ∷ Token RBrace ∷ []} refl
    (token (simp append_assoc (built r (Token RBrace ∷ s) (RBrace ∷ v) (token f))))
built no_app = λ s v f. skip refl f
built (last_app r) = λ s v f. built r s v (skip refl f)
built (more_apps {a = a} {b = b} r t) =
    λ s v f. rw append_assoc (built r s (Comma ∷ (b ++ v)) (takes {next = Apps ∷ []} refl (built t s v f)))
built (principal_app r) = λ s v f. takes {next = Token Colon ∷ Types ∷ AppsTail ∷ []} refl
    (token (built r (AppsTail ∷ s) v f))
built (resource_app r) = λ s v f. takes {next = Token Colon ∷ Types ∷ AppsTail ∷ []} refl
    (token (built r (AppsTail ∷ s) v f))
built (context_path r) = λ s v f.
    let p = built r in
    takes {next = Token Colon ∷ ContextType ∷ AppsTail ∷ []} refl
    (token (rw p.whole (takes (at_context p.first p.is) (p.then_ (AppsTail ∷ s) v f))))
built (context_record r) = λ s v f.
    let p = built r in
    takes {next = Token Colon ∷ ContextType ∷ AppsTail ∷ []} refl
    (token (rw p.whole (takes {next = Attrs ∷ Token RBrace ∷ []} refl (p.then_ (AppsTail ∷ s) v f))))
built (one_type r) = λ s v f. let p = built r in rw p.whole (takes (at_types p.first p.is) (p.then_ s v f))
built (listed_types r) = λ s v f.
    takes {next = Paths ∷ Token RBracket ∷ []} refl
    (simp append_assoc (built r (Token RBracket ∷ s) (RBracket ∷ v) (token f)))
built no_path = λ s v f. skip refl f
built (last_path r) = λ s v f.
    let p = built r in rw p.whole (takes (at_paths p.first p.is) (p.then_ (PathsTail ∷ s) v (skip refl f)))
built (more_paths {a = a} {b = b} r t) = λ s v f.
    let p = built r in
    rw (p.whole, append_assoc) (takes (at_paths p.first p.is)
    (p.then_ (PathsTail ∷ s) (Comma ∷ (b ++ v)) (takes {next = Paths ∷ []} refl (built t s v f))))
built (one_ref r) = (built r).0
built (listed_refs r) = λ s v f.
    takes {next = RefList ∷ Token RBracket ∷ []} refl
    (simp append_assoc (built r (Token RBracket ∷ s) (RBracket ∷ v) (token f)))
built no_ref = λ s v f. skip refl f
built (last_ref r) = λ s v f. (built r).1 s v (skip refl f)
built (more_refs {a = a} {b = b} r t) =
    λ s v f. rw append_assoc ((built r).1 s (Comma ∷ (b ++ v)) (takes {next = RefList ∷ []} refl (built t s v f)))
built (plain_ref r) =
    let p = built r in (
      (λ s v f. rw p.whole (ref_name p.only s v p.is f)),
      (λ s v f. rw p.whole (list_name p.only s v p.is f)),
    )
built (typed_ref r) =
    let p = built r in (
      (λ s v f. rw (p.whole, append_assoc) (takes (at_refs p.first p.is) (p.typed s v f))),
      (λ s v f. rw (p.whole, append_assoc) (takes (at_ref_list p.first p.is) (p.typed (RefListTail ∷ s) v f))),
    )
built (path_type r) = λ s v f. let p = built r in rw p.whole (path_type_at p.first s (p.rest ++ v) p.is (p.then_ s v f))
built (set_type r) = λ s v f.
    takes {next = SetTail ∷ []} refl
    (takes {next = AnyType ∷ Token Greater ∷ []} refl
    (simp append_assoc (built r (Token Greater ∷ s) (Greater ∷ v) (token f))))
built (record_type r) = λ s v f.
    let p = built r in rw p.whole (takes {next = Attrs ∷ Token RBrace ∷ []} refl (p.then_ s v f))
built (braces {a = a} r) =
    record {
      rest = a ++ RBrace ∷ [];
      whole = refl;
      then_ = λ s v f. simp append_assoc (built r (Token RBrace ∷ s) (RBrace ∷ v) (token f));
    }
built no_attr = λ s v f. skip refl f
built (last_attr r) = λ s v f. built r s v (skip refl f)
built (more_attrs {a = a} {b = b} r t) =
    λ s v f. rw append_assoc (built r s (Comma ∷ (b ++ v)) (takes {next = Attrs ∷ []} refl (built t s v f)))
built (one_attr {a = a} {n = n} {m = m} {t = t} c r q u) =
    let p = built r in
    λ s v f.
    let inside = λ (z : List Symbol) (g : Forest z v). built q (Token Colon ∷ AnyType ∷ z) (Colon ∷ (t ++ v))
    (token (built u z v g)) in
    simp append_assoc
    (rw p.whole
    (built c Attrs Attr (AttrsTail ∷ []) refl refl s (p.only ∷ (m ++ Colon ∷ (t ++ v)))
    (takes (at_attr p.only p.is) (inside (AttrsTail ∷ s) f))
    (takes (at_attrs p.only p.is) (inside (AttrsTail ∷ s) f))))
built no_mark = λ s v f. skip refl f
built question = λ s v f. takes {next = []} refl f
built (one_step {i = i} h) =
    record {
      first = i;
      rest = [];
      whole = refl;
      is = h;
      then_ = λ s v f. skip refl f;
      typed = λ s v f. takes {next = RefStep ∷ []} refl (takes {next = []} refl f);
      further = λ s v f. takes (at_ref_step i h) (token (takes {next = []} refl f));
    }
built (more_steps {i = i} {a = a} h r) =
    let p = built r in
    record {
      first = i;
      rest = PathSep ∷ a;
      whole = refl;
      is = h;
      then_ = λ s v f. takes {next = Ident ∷ PathTail ∷ []} refl (rw p.whole (ident p.is (p.then_ s v f)));
      typed = λ s v f. takes {next = RefStep ∷ []} refl (rw p.whole (p.further s v f));
      further = λ s v f. takes (at_ref_step i h) (token (rw p.whole (p.further s v f)));
    }
built no_ann = λ x y a g h s v f e. e
built (bare_ann {w = k} {a = b} w r) = λ x y a g h s v f e.
    annotation k x y a s (b ++ v) g w (skip refl (built r y y [] h h (a ++ s) v f f))
built (valued_ann {w = k} {a = b} w r) = λ x y a g h s v f e.
    annotation k x y a s (LParen ∷ StringLit ∷ RParen ∷ (b ++ v)) g w
    (takes {next = Token StringLit ∷ Token RParen ∷ []} refl (token (token (built r y y [] h h (a ++ s) v f f))))

-- each sentence is what the machine may read
pub sentence_forest : {w : List TokenKind} → Phrase schema w → Forest (Schema ∷ []) (w ++ [])
sentence_forest r = built r [] [] nothing
