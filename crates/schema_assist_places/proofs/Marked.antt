-- What each token of a phrase does is what it does for the machine.
use Rattle.std.proofs.Common.{◌≡◌, List, [], ◌∷◌, ◌++◌, Bool, true, Some, refl, ap, sym, ◌∙◌, append_assoc, ◌⊎◌, inl}
use Rattle.std.proofs.Common.{inr}
use Rattle.schema_syntax_grammar.specs.declared.token_kind.TokenKind.{TokenKind}
use Rattle.schema_syntax_grammar.specs.declared.token_kind.TokenKind.TheVariants.{KwNamespace, KwEntity, KwExternal}
use Rattle.schema_syntax_grammar.specs.declared.token_kind.TokenKind.TheVariants.{KwType, KwSet, KwAppliesTo}
use Rattle.schema_syntax_grammar.specs.declared.token_kind.TokenKind.TheVariants.{KwPrincipal, KwAction, KwResource}
use Rattle.schema_syntax_grammar.specs.declared.token_kind.TokenKind.TheVariants.{KwContext, KwTags, KwEnum, Identifier}
use Rattle.schema_syntax_grammar.specs.declared.token_kind.TokenKind.TheVariants.{StringLit, At, Comma, Semi, Colon}
use Rattle.schema_syntax_grammar.specs.declared.token_kind.TokenKind.TheVariants.{PathSep, LParen, RParen, LBrace}
use Rattle.schema_syntax_grammar.specs.declared.token_kind.TokenKind.TheVariants.{RBrace, LBracket, RBracket, Less}
use Rattle.schema_syntax_grammar.specs.declared.token_kind.TokenKind.TheVariants.{Greater, Equals}
use Rattle.schema_syntax_grammar.specs.declared.symbol.Symbol.{Symbol}
use Rattle.schema_syntax_grammar.specs.declared.symbol.Symbol.TheVariants.{Token, Schema, Item, Decls, Decl}
use Rattle.schema_syntax_grammar.specs.declared.symbol.Symbol.TheVariants.{AnnotationTail, AfterNamespace, AfterEntity}
use Rattle.schema_syntax_grammar.specs.declared.symbol.Symbol.TheVariants.{EntityTail, AfterExternal, AfterAction}
use Rattle.schema_syntax_grammar.specs.declared.symbol.Symbol.TheVariants.{AfterType, Word, Ident, IdentsTail, Name}
use Rattle.schema_syntax_grammar.specs.declared.symbol.Symbol.TheVariants.{NamesTail, ParentsTail, ShapeTail, TagsTail}
use Rattle.schema_syntax_grammar.specs.declared.symbol.Symbol.TheVariants.{Strings, StringsTail, RefsTail, AppliesTail}
use Rattle.schema_syntax_grammar.specs.declared.symbol.Symbol.TheVariants.{Apps, AppsTail, ContextType, PathTail, Types}
use Rattle.schema_syntax_grammar.specs.declared.symbol.Symbol.TheVariants.{Paths, PathsTail, Refs, RefList, RefListTail}
use Rattle.schema_syntax_grammar.specs.declared.symbol.Symbol.TheVariants.{RefTail, RefStep, AnyType, SetTail, Record}
use Rattle.schema_syntax_grammar.specs.declared.symbol.Symbol.TheVariants.{Attrs, AttrsTail, Attr, Mark}
use Rattle.schema_syntax_grammar.specs.Grammar.{is_word_kind, is_ident, Nonterminal, schema, item, decls, decl}
use Rattle.schema_syntax_grammar.specs.Grammar.{bare_decl}
use Rattle.schema_syntax_grammar.specs.Grammar.{idents, parents, shape, tags, strings, names, name, in_refs, applies}
use Rattle.schema_syntax_grammar.specs.Grammar.{apps, app, types, paths, refs, ref_list, ref, ty, rec, attrs, attr}
use Rattle.schema_syntax_grammar.specs.Grammar.{mark, path, anns, Phrase, no_item, more_items, namespace_item}
use Rattle.schema_syntax_grammar.specs.Grammar.{decl_item, no_decl, more_decls, annotated, entity_decl, enum_decl}
use Rattle.schema_syntax_grammar.specs.Grammar.{external_entity, action_decl, external_action, common_decl, one_ident}
use Rattle.schema_syntax_grammar.specs.Grammar.{more_idents, no_parents, in_parents, no_shape, bare_shape, equals_shape}
use Rattle.schema_syntax_grammar.specs.Grammar.{no_tags, some_tags, no_string, last_string, more_strings, one_name}
use Rattle.schema_syntax_grammar.specs.Grammar.{more_names, ident_name, string_name, no_refs, some_refs, no_applies}
use Rattle.schema_syntax_grammar.specs.Grammar.{some_applies, no_app, last_app, more_apps, principal_app, resource_app}
use Rattle.schema_syntax_grammar.specs.Grammar.{context_path, context_record, one_type, listed_types, no_path}
use Rattle.schema_syntax_grammar.specs.Grammar.{last_path, more_paths, one_ref, listed_refs, no_ref, last_ref}
use Rattle.schema_syntax_grammar.specs.Grammar.{more_refs, plain_ref, typed_ref, path_type, set_type, record_type}
use Rattle.schema_syntax_grammar.specs.Grammar.{braces, no_attr, last_attr, more_attrs, one_attr, no_mark, question}
use Rattle.schema_syntax_grammar.specs.Grammar.{one_step, more_steps, no_ann, bare_ann, valued_ann, is_name_kind}
use Rattle.schema_syntax_grammar.specs.Table.{after_front}
use Rattle.schema_syntax_grammar.proofs.Stops.{after_token}
use Rattle.schema_syntax_grammar.proofs.Complete.{ident_is_name}
use Rattle.schema_assist_places.specs.declared.role.Role.TheVariants.{TypePath, ActionRef}
use Rattle.schema_assist_places.specs.Duties.{plains, begun, duties}
use Rattle.schema_assist_places.specs.declared.duty.Duty.{Duty}
use Rattle.schema_assist_places.specs.declared.duty.Duty.TheVariants.{Opens, Outside, Plain}
use Rattle.schema_assist_places.specs.Trace.{duty_of, item_duty}
use Rattle.schema_assist_places.proofs.Marks.{Marks, nothing, skip, takes, takes_as}

token : {k : TokenKind} {s : List Symbol} {w : List TokenKind} {m : List Duty} → Marks s w m
    → Marks (Token k ∷ s) (k ∷ w) (Plain ∷ m)
token {k = k} f = takes (after_token k) f

abbrev Reads : List Symbol → List TokenKind → List Duty → Type 0
Reads a w m = (s : List Symbol) (v : List TokenKind) (n : List Duty) → Marks s v n → Marks (a ++ s) (w ++ v) (m ++ n)

-- a first token that passes a test, and then what the symbol stands for
record FirstThen (test : TokenKind → Bool) (x : Symbol) (w : List TokenKind) : Type 0 where
  first : TokenKind
  rest : List TokenKind
  whole : w ≡ first ∷ rest
  is : test first ≡ true
  then_ : Reads (x ∷ []) rest (plains rest)

-- a path, which may also be the front of an action's name
record PathThen (w : List TokenKind) : Type 0 where
  first : TokenKind
  rest : List TokenKind
  whole : w ≡ first ∷ rest
  is : is_ident first ≡ true
  then_ : Reads (PathTail ∷ []) rest (plains rest)
  typed : (s : List Symbol) (v : List TokenKind) (n : List Duty) → Marks s v n
      → Marks (RefTail ∷ s) (rest ++ PathSep ∷ StringLit ∷ v) (plains rest ++ Plain ∷ Plain ∷ n)
  further : (s : List Symbol) (v : List TokenKind) (n : List Duty) → Marks s v n
      → Marks (RefStep ∷ s) (first ∷ (rest ++ PathSep ∷ StringLit ∷ v)) (Plain ∷ (plains rest ++ Plain ∷ Plain ∷ n))

-- a record, without its brace
record BraceThen (w : List TokenKind) (m : List Duty) : Type 0 where
  rest : List TokenKind
  marks : List Duty
  whole : w ≡ LBrace ∷ rest
  all : m ≡ Plain ∷ marks
  then_ : Reads (Attrs ∷ Token RBrace ∷ []) rest marks

-- a declaration, without its first word
record DeclThen (o : Duty) (w : List TokenKind) (m : List Duty) : Type 0 where
  first : TokenKind
  after : Symbol
  rest : List TokenKind
  marks : List Duty
  whole : w ≡ first ∷ rest
  all : m ≡ o ∷ marks
  is : item_duty first ≡ Outside
  at_schema : after_front Schema first ≡ Some (after ∷ Schema ∷ [])
  at_item : after_front Item first ≡ Some (after ∷ [])
  at_decls : after_front Decls first ≡ Some (after ∷ Decls ∷ [])
  at_decl : after_front Decl first ≡ Some (after ∷ [])
  then_ : Reads (after ∷ []) rest marks

-- a name of one token
record IsNameOf (w : List TokenKind) : Type 0 where
  only : TokenKind
  whole : w ≡ only ∷ []
  is : is_name_kind only ≡ true

-- annotations, before a symbol that may begin with one, where y is what it is after the first
abbrev Annotates : List TokenKind → Type 0
Annotates w = (x y : Symbol) (a : List Symbol) → after_front x At ≡ Some (Word ∷ AnnotationTail ∷ y ∷ a)
    → after_front y At ≡ Some (Word ∷ AnnotationTail ∷ y ∷ []) → duty_of x At ≡ Plain → duty_of y At ≡ Plain
    → (s : List Symbol) (v : List TokenKind) (n : List Duty)
    → Marks (y ∷ (a ++ s)) v n → Marks (x ∷ s) v n → Marks (x ∷ s) (w ++ v) (plains w ++ n)

-- one more at the front of a list of such
abbrev Adds : Symbol → Symbol → List TokenKind → List Duty → Type 0
Adds x tail w m = (s : List Symbol) (v : List TokenKind) (n : List Duty) → Marks (tail ∷ s) v n
    → Marks (x ∷ s) (w ++ v) (m ++ n)

-- a part of an entity's declaration, of which any may be left out
abbrev Tails : List Symbol → List TokenKind → List Duty → Type 0
Tails a w m = (s : List Symbol) (v : List TokenKind) (n : List Duty) → Marks (a ++ s) v n → Marks (EntityTail ∷ s) v n
    → Marks (EntityTail ∷ s) (w ++ v) (m ++ n)

-- what a phrase is for the table
abbrev Built : Nonterminal → Duty → List TokenKind → List Duty → Type 0
Built schema o w m = Reads (Schema ∷ []) w m
Built item o w m = Adds Schema Schema w m
Built decls o w m = Reads (Decls ∷ []) w m
Built decl o w m = (o ≡ Outside → Adds Schema Schema w m) × (o ≡ Plain → Adds Decls Decls w m)
Built bare_decl o w m = DeclThen o w m
Built idents o w m = FirstThen is_ident IdentsTail w
Built parents o w m = Reads (ParentsTail ∷ []) w m × Tails (ShapeTail ∷ TagsTail ∷ Token Semi ∷ []) w m
Built shape o w m = Reads (ShapeTail ∷ []) w m × Tails (TagsTail ∷ Token Semi ∷ []) w m
Built tags o w m = Reads (TagsTail ∷ []) w m
    × ((s : List Symbol) (v : List TokenKind) (n : List Duty) → Marks s v n
    → Marks (EntityTail ∷ s) (w ++ Semi ∷ v) (m ++ Plain ∷ n))
Built strings o w m = Reads (Strings ∷ []) w (plains w)
Built names o w m = FirstThen is_name_kind NamesTail w
Built name o w m = IsNameOf w
Built in_refs o w m = Reads (RefsTail ∷ []) w m
Built applies o w m = Reads (AppliesTail ∷ []) w m
Built apps o w m = Reads (Apps ∷ []) w m
Built app o w m = Adds Apps AppsTail w m
Built types o w m = Reads (Types ∷ []) w m
Built paths o w m = Reads (Paths ∷ []) w m
Built refs o w m = Reads (Refs ∷ []) w m
Built ref_list o w m = Reads (RefList ∷ []) w m
Built ref o w m = Reads (Refs ∷ []) w m × Adds RefList RefListTail w m
Built ty o w m = Reads (AnyType ∷ []) w m
Built rec o w m = BraceThen w m
Built attrs o w m = Reads (Attrs ∷ []) w m
Built attr o w m = Adds Attrs AttrsTail w m
Built mark o w m = Reads (Mark ∷ []) w (plains w)
Built path o w m = PathThen w
Built anns o w m = Annotates w

-- the first words of symbols, where the word is not known

at_word : (k : TokenKind) → is_word_kind k ≡ true → after_front Word k ≡ Some []
unfolding after_front
at_word k h = rw h refl

at_ident : (k : TokenKind) → is_ident k ≡ true → after_front Ident k ≡ Some []
unfolding after_front
at_ident k h = rw h refl

at_name : (k : TokenKind) → is_name_kind k ≡ true → after_front Name k ≡ Some []
unfolding after_front
at_name k h = rw h refl

at_namespace : (k : TokenKind) → is_ident k ≡ true
    → after_front AfterNamespace k ≡ Some (PathTail ∷ Token LBrace ∷ Decls ∷ Token RBrace ∷ [])
unfolding after_front
at_namespace k h = rw h refl

at_entity : (k : TokenKind) → is_ident k ≡ true → after_front AfterEntity k ≡ Some (IdentsTail ∷ EntityTail ∷ [])
unfolding after_front
at_entity k h = rw h refl

at_action : (k : TokenKind) → is_name_kind k ≡ true
    → after_front AfterAction k ≡ Some (NamesTail ∷ RefsTail ∷ AppliesTail ∷ Token Semi ∷ [])
unfolding after_front
at_action k h = rw h refl

at_type : (k : TokenKind) → is_ident k ≡ true
    → after_front AfterType k ≡ Some (Token Equals ∷ AnyType ∷ Token Semi ∷ [])
unfolding after_front
at_type k h = rw h refl

at_context : (k : TokenKind) → is_ident k ≡ true → after_front ContextType k ≡ Some (PathTail ∷ [])
unfolding after_front
at_context k h = rw h refl

at_types : (k : TokenKind) → is_ident k ≡ true → after_front Types k ≡ Some (PathTail ∷ [])
unfolding after_front
at_types k h = rw h refl

at_paths : (k : TokenKind) → is_ident k ≡ true → after_front Paths k ≡ Some (PathTail ∷ PathsTail ∷ [])
unfolding after_front
at_paths k h = rw h refl

at_refs : (k : TokenKind) → is_ident k ≡ true → after_front Refs k ≡ Some (RefTail ∷ [])
unfolding after_front
at_refs k h = rw h refl

at_ref_list : (k : TokenKind) → is_ident k ≡ true → after_front RefList k ≡ Some (RefTail ∷ RefListTail ∷ [])
unfolding after_front
at_ref_list k h = rw h refl

at_ref_step : (k : TokenKind) → is_ident k ≡ true → after_front RefStep k ≡ Some (Token PathSep ∷ RefStep ∷ [])
unfolding after_front
at_ref_step k h = rw h refl

at_attrs : (k : TokenKind) → is_name_kind k ≡ true
    → after_front Attrs k ≡ Some (Mark ∷ Token Colon ∷ AnyType ∷ AttrsTail ∷ [])
unfolding after_front
at_attrs k h = rw h refl

at_attr : (k : TokenKind) → is_name_kind k ≡ true → after_front Attr k ≡ Some (Mark ∷ Token Colon ∷ AnyType ∷ [])
unfolding after_front
at_attr k h = rw h refl

name_cases : (k : TokenKind) → is_name_kind k ≡ true → (is_ident k ≡ true) ⊎ (k ≡ StringLit)
name_cases StringLit h = inr refl
name_cases k h = inl h

-- `Set` in a type, where no `<` comes

path_set : (k : TokenKind) (next : List Symbol) → after_front PathTail k ≡ Some next
    → after_front SetTail k ≡ Some next
unfolding after_front
path_set PathSep next g = g
path_set Less next g = cc
path_set _ next g = g

to_set : (s : List Symbol) (w : List TokenKind) (m : List Duty) → Marks (PathTail ∷ s) w m → Marks (SetTail ∷ s) w m
to_set s w m (skip n f) = skip refl f
to_set s w m (takes {k = k} {next = next} g f) = takes (path_set k next g) f

path_type_at : (i : TokenKind) (s : List Symbol) (w : List TokenKind) (m : List Duty) → is_ident i ≡ true
    → Marks (PathTail ∷ s) w m → Marks (AnyType ∷ s) (i ∷ w) (begun TypePath i ∷ m)
unfolding after_front
path_type_at KwSet s w m h f = takes {next = SetTail ∷ []} refl (to_set s w m f)
path_type_at KwNamespace s w m h f = takes {next = PathTail ∷ []} refl f
path_type_at KwEntity s w m h f = takes {next = PathTail ∷ []} refl f
path_type_at KwExternal s w m h f = takes {next = PathTail ∷ []} refl f
path_type_at KwType s w m h f = takes {next = PathTail ∷ []} refl f
path_type_at KwAppliesTo s w m h f = takes {next = PathTail ∷ []} refl f
path_type_at KwPrincipal s w m h f = takes {next = PathTail ∷ []} refl f
path_type_at KwAction s w m h f = takes {next = PathTail ∷ []} refl f
path_type_at KwResource s w m h f = takes {next = PathTail ∷ []} refl f
path_type_at KwContext s w m h f = takes {next = PathTail ∷ []} refl f
path_type_at KwTags s w m h f = takes {next = PathTail ∷ []} refl f
path_type_at KwEnum s w m h f = takes {next = PathTail ∷ []} refl f
path_type_at Identifier s w m h f = takes {next = PathTail ∷ []} refl f
path_type_at _ s w m h f = cc

-- an action's name of one token, before what comes after it

ref_name : (k : TokenKind) (s : List Symbol) (v : List TokenKind) (n : List Duty) → is_name_kind k ≡ true → Marks s v n
    → Marks (Refs ∷ s) (k ∷ v) (begun ActionRef k ∷ n)
unfolding after_front
ref_name k s v n h f = elim (name_cases k h) [
  | inl i ↦ takes (at_refs k i) (skip refl f)
  | inr e ↦ rw e (takes {next = []} refl f)
]

list_name : (k : TokenKind) (s : List Symbol) (v : List TokenKind) (n : List Duty) → is_name_kind k ≡ true
    → Marks (RefListTail ∷ s) v n → Marks (RefList ∷ s) (k ∷ v) (begun ActionRef k ∷ n)
unfolding after_front
list_name k s v n h f = elim (name_cases k h) [
  | inl i ↦ takes (at_ref_list k i) (skip refl f)
  | inr e ↦ rw e (takes {next = RefListTail ∷ []} refl f)
]

ident : {i : TokenKind} {s : List Symbol} {w : List TokenKind} {m : List Duty} → is_ident i ≡ true → Marks s w m
    → Marks (Ident ∷ s) (i ∷ w) (Plain ∷ m)
ident {i = i} h f = takes (at_ident i h) f

-- one annotation more
annotation : (k : TokenKind) (x y : Symbol) (a s : List Symbol) (w : List TokenKind) (m : List Duty)
    → after_front x At ≡ Some (Word ∷ AnnotationTail ∷ y ∷ a) → duty_of x At ≡ Plain → is_word_kind k ≡ true
    → Marks (AnnotationTail ∷ y ∷ (a ++ s)) w m → Marks (x ∷ s) (At ∷ k ∷ w) (Plain ∷ Plain ∷ m)
annotation k x y a s w m g d h f = takes_as g d (takes (at_word k h) f)

-- what is marked, by what is equal to it
changed : (v : List TokenKind) (n : List Duty) {b c : List TokenKind} {m r : List Duty} {s : List Symbol} → b ≡ c
    → m ≡ r → Marks s (c ++ v) (r ++ n) → Marks s (b ++ v) (m ++ n)
changed v n e f g = rw (e, f) g

-- what is marked behind a front, by what is equal to it
joined : (a v : List TokenKind) (p n : List Duty) {b c : List TokenKind} {m r : List Duty} {s : List Symbol} → b ≡ c
    → m ≡ r → Marks s (a ++ (c ++ v)) (p ++ (r ++ n)) → Marks s ((a ++ b) ++ v) ((p ++ m) ++ n)
joined a v p n {c = c} {r = r} e f g = rw (e, f, append_assoc a c v, append_assoc p r n) g

built : {p : Nonterminal} {w : List TokenKind} (o : Duty) (r : Phrase p w) → Built p o w (duties o r)
unfolding after_front duties
built o no_item = λ s v n f. skip refl f
built o (more_items {a = a} {b = b} d r) = λ s v n f. simp append_assoc
    (built o d s (b ++ v) (duties o r ++ n) (built o r s v n f))
built o (namespace_item {a = a} {p = p} {d = d} c q r) =
    let first = built o q in
    λ s v n f.
    let inside = λ (t : List Symbol) (g : Marks t v n). takes {x = AfterNamespace} {k = first.first}
    (at_namespace first.first first.is)
    (first.then_ (Token LBrace ∷ Decls ∷ Token RBrace ∷ t) (LBrace ∷ (d ++ RBrace ∷ v))
    (Plain ∷ (duties o r ++ Plain ∷ n))
    (token (built o r (Token RBrace ∷ t) (RBrace ∷ v) (Plain ∷ n) (token g)))) in
    simp append_assoc
    (rw first.whole
    (built o c Schema Item (Schema ∷ []) refl refl refl refl s
    (KwNamespace ∷ first.first ∷ (first.rest ++ LBrace ∷ (d ++ RBrace ∷ v)))
    (Opens ∷ Plain ∷ (plains first.rest ++ Plain ∷ (duties o r ++ Plain ∷ n)))
    (takes {next = AfterNamespace ∷ []} refl (inside (Schema ∷ s) f))
    (takes {next = AfterNamespace ∷ Schema ∷ []} refl (inside (Schema ∷ s) f))))
built o (decl_item r) = (built Outside r).0 refl
built o no_decl = λ s v n f. skip refl f
built o (more_decls {a = a} {b = b} d r) = λ s v n f.
    simp append_assoc ((built Plain d).1 refl s (b ++ v) (duties Plain r ++ n) (built Plain r s v n f))
built o (annotated {a = a} {b = b} c r) =
    let d = built o r in (
      (λ h s v n f. joined a v (plains a) n d.whole d.all
          (built o c Schema Item (Schema ∷ []) refl refl refl refl s (d.first ∷ (d.rest ++ v)) (o ∷ (d.marks ++ n))
          (takes_as d.at_item (d.is ∙ sym h) (d.then_ (Schema ∷ s) v n f))
          (takes_as d.at_schema (d.is ∙ sym h) (d.then_ (Schema ∷ s) v n f)))),
      (λ h s v n f. joined a v (plains a) n d.whole d.all
          (built o c Decls Decl (Decls ∷ []) refl refl refl refl s (d.first ∷ (d.rest ++ v)) (o ∷ (d.marks ++ n))
          (takes_as d.at_decl (sym h) (d.then_ (Decls ∷ s) v n f))
          (takes_as d.at_decls (sym h) (d.then_ (Decls ∷ s) v n f)))),
    )
built o (entity_decl {i = i} {p = p} {s = s} {t = t} c q r u) =
    let first = built o c in
    record {
      first = KwEntity;
      after = AfterEntity;
      rest = i ++ (p ++ (s ++ (t ++ Semi ∷ [])));
      marks = plains i ++ (duties o q ++ (duties o r ++ (duties o u ++ Plain ∷ [])));
      whole = refl;
      all = refl;
      is = refl;
      at_schema = refl;
      at_item = refl;
      at_decls = refl;
      at_decl = refl;
      then_ = λ z v n f.
          let tag_end = (built o u).1 z v n f in
          let tag_rest = (built o u).0 (Token Semi ∷ z) (Semi ∷ v) (Plain ∷ n) (token f) in
          let m4 = duties o u ++ Plain ∷ n in
          let m3 = duties o r ++ m4 in
          let m2 = duties o q ++ m3 in
          let shape_end = (built o r).1 z (t ++ Semi ∷ v) m4 tag_rest tag_end in
          let shape_rest = (built o r).0 (TagsTail ∷ Token Semi ∷ z) (t ++ Semi ∷ v) m4 tag_rest in
          let tail = (built o q).1 z (s ++ (t ++ Semi ∷ v)) m3 shape_rest shape_end in
          simp append_assoc (rw first.whole
          (takes (at_entity first.first first.is)
          (first.then_ (EntityTail ∷ z) (p ++ (s ++ (t ++ Semi ∷ v))) m2 tail)));
    }
built o (enum_decl {i = i} {s = s} c r) =
    let first = built o c in
    record {
      first = KwEntity;
      after = AfterEntity;
      rest = i ++ KwEnum ∷ LBracket ∷ (s ++ RBracket ∷ Semi ∷ []);
      marks = plains i ++ Plain ∷ Plain ∷ (plains s ++ Plain ∷ Plain ∷ []);
      whole = refl;
      all = refl;
      is = refl;
      at_schema = refl;
      at_item = refl;
      at_decls = refl;
      at_decl = refl;
      then_ = λ z v n f.
          simp append_assoc
          (rw first.whole
          (takes (at_entity first.first first.is)
          (first.then_ (EntityTail ∷ z) (KwEnum ∷ LBracket ∷ (s ++ RBracket ∷ Semi ∷ v))
          (Plain ∷ Plain ∷ (plains s ++ Plain ∷ Plain ∷ n))
          (takes {next = Token LBracket ∷ Strings ∷ Token RBracket ∷ Token Semi ∷ []} refl
          (token (built o r (Token RBracket ∷ Token Semi ∷ z)
          (RBracket ∷ Semi ∷ v) (Plain ∷ Plain ∷ n) (token (token f))))))));
    }
built o (external_entity {i = i} {p = p} c q) =
    let first = built o c in
    record {
      first = KwExternal;
      after = AfterExternal;
      rest = KwEntity ∷ (i ++ (p ++ Semi ∷ []));
      marks = Plain ∷ (plains i ++ (duties o q ++ Plain ∷ []));
      whole = refl;
      all = refl;
      is = refl;
      at_schema = refl;
      at_item = refl;
      at_decls = refl;
      at_decl = refl;
      then_ = λ z v n f.
          simp append_assoc
          (rw first.whole
          (takes {next = Ident ∷ IdentsTail ∷ ParentsTail ∷ Token Semi ∷ []} refl
          (ident first.is (first.then_ (ParentsTail ∷ Token Semi ∷ z) (p ++ Semi ∷ v) (duties o q ++ Plain ∷ n)
          ((built o q).0 (Token Semi ∷ z) (Semi ∷ v) (Plain ∷ n) (token f))))));
    }
built o (action_decl {n = b} {r = r} {a = a} c q u) =
    let first = built o c in
    record {
      first = KwAction;
      after = AfterAction;
      rest = b ++ (r ++ (a ++ Semi ∷ []));
      marks = plains b ++ (duties o q ++ (duties o u ++ Plain ∷ []));
      whole = refl;
      all = refl;
      is = refl;
      at_schema = refl;
      at_item = refl;
      at_decls = refl;
      at_decl = refl;
      then_ = λ z v n f.
          simp append_assoc
          (rw first.whole
          (takes (at_action first.first first.is)
          (first.then_ (RefsTail ∷ AppliesTail ∷ Token Semi ∷ z) (r ++ (a ++ Semi ∷ v))
          (duties o q ++ (duties o u ++ Plain ∷ n))
          (built o q (AppliesTail ∷ Token Semi ∷ z) (a ++ Semi ∷ v) (duties o u ++ Plain ∷ n)
          (built o u (Token Semi ∷ z) (Semi ∷ v) (Plain ∷ n) (token f))))));
    }
built o (external_action {n = b} {r = r} c q) =
    let first = built o c in
    record {
      first = KwExternal;
      after = AfterExternal;
      rest = KwAction ∷ (b ++ (r ++ Semi ∷ []));
      marks = Plain ∷ (plains b ++ (duties o q ++ Plain ∷ []));
      whole = refl;
      all = refl;
      is = refl;
      at_schema = refl;
      at_item = refl;
      at_decls = refl;
      at_decl = refl;
      then_ = λ z v n f.
          simp append_assoc
          (rw first.whole
          (takes {next = Name ∷ NamesTail ∷ RefsTail ∷ Token Semi ∷ []} refl
          (takes (at_name first.first first.is)
          (first.then_ (RefsTail ∷ Token Semi ∷ z) (r ++ Semi ∷ v) (duties o q ++ Plain ∷ n)
          (built o q (Token Semi ∷ z) (Semi ∷ v) (Plain ∷ n) (token f))))));
    }
built o (common_decl {i = i} {t = t} h r) =
    record {
      first = KwType;
      after = AfterType;
      rest = i ∷ Equals ∷ (t ++ Semi ∷ []);
      marks = Plain ∷ Plain ∷ (duties o r ++ Plain ∷ []);
      whole = refl;
      all = refl;
      is = refl;
      at_schema = refl;
      at_item = refl;
      at_decls = refl;
      at_decl = refl;
      then_ = λ z v n f.
          simp append_assoc (takes (at_type i h) (token (built o r (Token Semi ∷ z) (Semi ∷ v) (Plain ∷ n) (token f))));
    }
built o (one_ident {i = i} h) = record { first = i; rest = []; whole = refl; is = h; then_ = λ s v n f. skip refl f }
built o (more_idents {i = i} {a = a} h r) =
    let p = built o r in
    record {
      first = i;
      rest = Comma ∷ a;
      whole = refl;
      is = h;
      then_ = λ s v n f. takes {next = Ident ∷ IdentsTail ∷ []} refl (rw p.whole (ident p.is (p.then_ s v n f)));
    }
built o no_parents = ((λ s v n f. skip refl f), (λ s v n f g. g))
built o (in_parents r) = (
  (λ s v n f. takes {next = Types ∷ []} refl (built o r s v n f)),
  (λ s v n f g. takes {next = Types ∷ ShapeTail ∷ TagsTail ∷ Token Semi ∷ []} refl
      (built o r (ShapeTail ∷ TagsTail ∷ Token Semi ∷ s) v n f)),
)
built o no_shape = ((λ s v n f. skip refl f), (λ s v n f g. g))
built o (bare_shape r) =
    let p = built o r in (
      (λ s v n f. changed v n p.whole p.all (takes {next = Attrs ∷ Token RBrace ∷ []} refl (p.then_ s v n f))),
      (λ s v n f g. changed v n p.whole p.all (takes {next = Attrs ∷ Token RBrace ∷ TagsTail ∷ Token Semi ∷ []} refl
          (p.then_ (TagsTail ∷ Token Semi ∷ s) v n f))),
    )
built o (equals_shape r) =
    let p = built o r in
    let inside = λ (s : List Symbol) (v : List TokenKind) (n : List Duty) (f : Marks s v n).
    takes {x = Record} {k = LBrace}
    {next = Attrs ∷ Token RBrace ∷ []} refl (p.then_ s v n f) in (
      (λ s v n f. takes {next = Record ∷ []} refl (changed v n p.whole p.all (inside s v n f))),
      (λ s v n f g. takes {next = Record ∷ TagsTail ∷ Token Semi ∷ []} refl
          (changed v n p.whole p.all (inside (TagsTail ∷ Token Semi ∷ s) v n f))),
    )
built o no_tags = ((λ s v n f. skip refl f), (λ s v n f. takes {next = []} refl f))
built o (some_tags r) = (
  (λ s v n f. takes {next = AnyType ∷ []} refl (built o r s v n f)),
  (λ s v n f. takes {next = AnyType ∷ Token Semi ∷ []} refl (built o r (Token Semi ∷ s)
      (Semi ∷ v) (Plain ∷ n) (token f))),
)
built o no_string = λ s v n f. skip refl f
built o last_string = λ s v n f. takes {next = StringsTail ∷ []} refl (skip refl f)
built o (more_strings r) = λ s v n f. takes {next = StringsTail ∷ []} refl
    (takes {next = Strings ∷ []} refl (built o r s v n f))
built o (one_name r) =
    let p = built o r in record {
      first = p.only;
      rest = [];
      whole = p.whole;
      is = p.is;
      then_ = λ s v n f. skip refl f;
    }
built o (more_names {a = a} {b = b} r t) =
    let p = built o r in
    let q = built o t in
    record {
      first = p.only;
      rest = Comma ∷ b;
      whole = ap (λ z. z ++ Comma ∷ b) p.whole;
      is = p.is;
      then_ = λ s v n f. takes {next = Name ∷ NamesTail ∷ []} refl
          (rw q.whole (takes (at_name q.first q.is) (q.then_ s v n f)));
    }
built o (ident_name {i = i} h) = record { only = i; whole = refl; is = ident_is_name i h }
built o string_name = record { only = StringLit; whole = refl; is = refl }
built o no_refs = λ s v n f. skip refl f
built o (some_refs r) = λ s v n f. takes {next = Refs ∷ []} refl (built o r s v n f)
built o no_applies = λ s v n f. skip refl f
built o (some_applies r) = λ s v n f.
    takes {next = Token LBrace ∷ Apps ∷ Token RBrace ∷ []} refl
    (token (simp append_assoc (built o r (Token RBrace ∷ s) (RBrace ∷ v) (Plain ∷ n) (token f))))
built o no_app = λ s v n f. skip refl f
built o (last_app r) = λ s v n f. built o r s v n (skip refl f)
built o (more_apps {a = a} {b = b} r t) =
    λ s v n f. simp append_assoc (built o r s (Comma ∷ (b ++ v)) (Plain ∷ (duties o t ++ n))
    (takes {next = Apps ∷ []} refl (built o t s v n f)))
built o (principal_app r) = λ s v n f. takes {next = Token Colon ∷ Types ∷ AppsTail ∷ []} refl
    (token (built o r (AppsTail ∷ s) v n f))
built o (resource_app r) = λ s v n f. takes {next = Token Colon ∷ Types ∷ AppsTail ∷ []} refl
    (token (built o r (AppsTail ∷ s) v n f))
built o (context_path r) = λ s v n f.
    let p = built o r in
    takes {next = Token Colon ∷ ContextType ∷ AppsTail ∷ []} refl
    (token (rw p.whole (takes (at_context p.first p.is) (p.then_ (AppsTail ∷ s) v n f))))
built o (context_record r) = λ s v n f.
    let p = built o r in
    takes {next = Token Colon ∷ ContextType ∷ AppsTail ∷ []} refl
    (token (changed v n p.whole p.all (takes {next = Attrs ∷ Token RBrace ∷ []} refl (p.then_ (AppsTail ∷ s) v n f))))
built o (one_type r) = λ s v n f. let p = built o r in rw p.whole (takes (at_types p.first p.is) (p.then_ s v n f))
built o (listed_types r) = λ s v n f.
    takes {next = Paths ∷ Token RBracket ∷ []} refl
    (simp append_assoc (built o r (Token RBracket ∷ s) (RBracket ∷ v) (Plain ∷ n) (token f)))
built o no_path = λ s v n f. skip refl f
built o (last_path r) = λ s v n f.
    let p = built o r in rw p.whole (takes (at_paths p.first p.is) (p.then_ (PathsTail ∷ s) v n (skip refl f)))
built o (more_paths {a = a} {b = b} r t) = λ s v n f.
    let p = built o r in
    rw (p.whole, append_assoc, append_assoc) (takes (at_paths p.first p.is)
    (p.then_ (PathsTail ∷ s) (Comma ∷ (b ++ v)) (Plain ∷ (duties o t ++ n))
    (takes {next = Paths ∷ []} refl (built o t s v n f))))
built o (one_ref r) = (built o r).0
built o (listed_refs r) = λ s v n f.
    takes {next = RefList ∷ Token RBracket ∷ []} refl
    (simp append_assoc (built o r (Token RBracket ∷ s) (RBracket ∷ v) (Plain ∷ n) (token f)))
built o no_ref = λ s v n f. skip refl f
built o (last_ref r) = λ s v n f. (built o r).1 s v n (skip refl f)
built o (more_refs {a = a} {b = b} r t) =
    λ s v n f. simp append_assoc ((built o r).1 s (Comma ∷ (b ++ v)) (Plain ∷ (duties o t ++ n))
    (takes {next = RefList ∷ []} refl (built o t s v n f)))
built o (plain_ref r) =
    let p = built o r in (
      (λ s v n f. rw p.whole (ref_name p.only s v n p.is f)),
      (λ s v n f. rw p.whole (list_name p.only s v n p.is f)),
    )
built o (typed_ref r) =
    let p = built o r in (
      (λ s v n f. rw (p.whole, append_assoc, append_assoc) (takes (at_refs p.first p.is) (p.typed s v n f))),
      (λ s v n f. rw (p.whole, append_assoc, append_assoc)
          (takes (at_ref_list p.first p.is) (p.typed (RefListTail ∷ s) v n f))),
    )
built o (path_type r) = λ s v n f.
    let p = built o r in rw p.whole (path_type_at p.first s (p.rest ++ v) (plains p.rest ++ n) p.is (p.then_ s v n f))
built o (set_type r) = λ s v n f.
    takes {next = SetTail ∷ []} refl
    (takes {next = AnyType ∷ Token Greater ∷ []} refl
    (simp append_assoc (built o r (Token Greater ∷ s) (Greater ∷ v) (Plain ∷ n) (token f))))
built o (record_type r) = λ s v n f.
    let p = built o r in changed v n p.whole p.all (takes {next = Attrs ∷ Token RBrace ∷ []} refl (p.then_ s v n f))
built o (braces {a = a} r) =
    record {
      rest = a ++ RBrace ∷ [];
      marks = duties o r ++ Plain ∷ [];
      whole = refl;
      all = refl;
      then_ = λ s v n f. simp append_assoc (built o r (Token RBrace ∷ s) (RBrace ∷ v) (Plain ∷ n) (token f));
    }
built o no_attr = λ s v n f. skip refl f
built o (last_attr r) = λ s v n f. built o r s v n (skip refl f)
built o (more_attrs {a = a} {b = b} r t) =
    λ s v n f. simp append_assoc (built o r s (Comma ∷ (b ++ v)) (Plain ∷ (duties o t ++ n))
    (takes {next = Attrs ∷ []} refl (built o t s v n f)))
built o (one_attr {a = a} {n = b} {m = m} {t = t} c r q u) =
    let p = built o r in
    λ s v n f.
    let inside = λ (z : List Symbol) (g : Marks z v n). built o q (Token Colon ∷ AnyType ∷ z) (Colon ∷ (t ++ v))
    (Plain ∷ (duties o u ++ n)) (token (built o u z v n g)) in
    simp append_assoc
    (rw p.whole
    (built o c Attrs Attr (AttrsTail ∷ []) refl refl refl refl s (p.only ∷ (m ++ Colon ∷ (t ++ v)))
    (Plain ∷ (plains m ++ Plain ∷ (duties o u ++ n)))
    (takes (at_attr p.only p.is) (inside (AttrsTail ∷ s) f))
    (takes (at_attrs p.only p.is) (inside (AttrsTail ∷ s) f))))
built o no_mark = λ s v n f. skip refl f
built o question = λ s v n f. takes {next = []} refl f
built o (one_step {i = i} h) =
    record {
      first = i;
      rest = [];
      whole = refl;
      is = h;
      then_ = λ s v n f. skip refl f;
      typed = λ s v n f. takes {next = RefStep ∷ []} refl (takes {next = []} refl f);
      further = λ s v n f. takes (at_ref_step i h) (token (takes {next = []} refl f));
    }
built o (more_steps {i = i} {a = a} h r) =
    let p = built o r in
    record {
      first = i;
      rest = PathSep ∷ a;
      whole = refl;
      is = h;
      then_ = λ s v n f. takes {next = Ident ∷ PathTail ∷ []} refl (rw p.whole (ident p.is (p.then_ s v n f)));
      typed = λ s v n f. takes {next = RefStep ∷ []} refl (rw p.whole (p.further s v n f));
      further = λ s v n f. takes (at_ref_step i h) (token (rw p.whole (p.further s v n f)));
    }
built o no_ann = λ x y a g h d e s v n f i. i
built o (bare_ann {w = k} {a = b} w r) = λ x y a g h d e s v n f i.
    annotation k x y a s (b ++ v) (plains b ++ n) g d w (skip refl (built o r y y [] h h e e (a ++ s) v n f f))
built o (valued_ann {w = k} {a = b} w r) = λ x y a g h d e s v n f i.
    annotation k x y a s (LParen ∷ StringLit ∷ RParen ∷ (b ++ v)) (Plain ∷ Plain ∷ Plain ∷ (plains b ++ n)) g d w
    (takes {next = Token StringLit ∷ Token RParen ∷ []} refl
    (token (token (built o r y y [] h h e e (a ++ s) v n f f))))

-- what each token of a sentence does is what it does for the machine
pub sentence_marks : {w : List TokenKind} (r : Phrase schema w)
    → Marks (Schema ∷ []) (w ++ []) (duties Outside r ++ [])
sentence_marks r = built Outside r [] [] [] nothing
