-- Tokens with a syntax have the kinds of a schema.
use Rattle.std.proofs.Common.{◌≡◌, List, [], ◌∷◌, ◌++◌, Bool, true, Option, refl, sym, ap, ◌∙◌, subst}
use Rattle.std.proofs.lemmas.List.{map-append}
use Rattle.cedar_data.specs.Span.{Span}
use Rattle.schema_syntax_grammar.specs.declared.token_kind.TokenKind.{TokenKind}
use Rattle.schema_syntax_grammar.specs.declared.token_kind.TokenKind.TheVariants.{KwNamespace, KwEntity, KwExternal}
use Rattle.schema_syntax_grammar.specs.declared.token_kind.TokenKind.TheVariants.{KwIn, KwType, KwSet, KwAppliesTo}
use Rattle.schema_syntax_grammar.specs.declared.token_kind.TokenKind.TheVariants.{KwPrincipal, KwAction, KwResource}
use Rattle.schema_syntax_grammar.specs.declared.token_kind.TokenKind.TheVariants.{KwContext, KwTags, KwEnum, StringLit}
use Rattle.schema_syntax_grammar.specs.declared.token_kind.TokenKind.TheVariants.{At, Comma, Semi, Colon, PathSep}
use Rattle.schema_syntax_grammar.specs.declared.token_kind.TokenKind.TheVariants.{LParen, RParen, LBrace, RBrace}
use Rattle.schema_syntax_grammar.specs.declared.token_kind.TokenKind.TheVariants.{LBracket, RBracket, Less, Greater}
use Rattle.schema_syntax_grammar.specs.declared.token_kind.TokenKind.TheVariants.{Question, Equals}
use Rattle.schema_syntax_grammar.specs.Grammar.{is_ident, Kinds, Nonterminal, schema, item, decls, decl}
use Rattle.schema_syntax_grammar.specs.Grammar.{bare_decl, idents, parents, shape, tags, strings, names, in_refs}
use Rattle.schema_syntax_grammar.specs.Grammar.{applies, apps, app, types, paths, refs, ref_list, ref, ty, rec, attrs}
use Rattle.schema_syntax_grammar.specs.Grammar.{attr, mark, path, anns, Phrase, is_name_kind}
use Rattle.schema_syntax_grammar.specs.Grammar as G
use Rattle.schema_syntax_grammar.proofs.Sound.{one_token}
use Rattle.schema_syntax_tokens.specs.declared.token.Token.{Token}
use Rattle.schema_syntax_tokens.specs.TokenLists.{kinds_of}
use Rattle.schema_syntax_parser.specs.declared.syntax.PathSyntax.{PathSyntax}
use Rattle.schema_syntax_parser.specs.declared.syntax.AnnotationSyntax.{AnnotationSyntax}
use Rattle.schema_syntax_parser.specs.declared.syntax.TypeSyntax.{TypeSyntax}
use Rattle.schema_syntax_parser.specs.declared.syntax.AttrSyntax.{AttrSyntax}
use Rattle.schema_syntax_parser.specs.declared.syntax.AppSyntax.{AppSyntax}
use Rattle.schema_syntax_parser.specs.declared.syntax.DeclSyntax.{DeclSyntax}
use Rattle.schema_syntax_parser.specs.declared.syntax.DeclaredSyntax.{DeclaredSyntax}
use Rattle.schema_syntax_parser.specs.declared.syntax.ItemSyntax.{ItemSyntax}
use Rattle.schema_syntax_parser.specs.Syntax.{IsChain, AreSeparated, AreListed, AreMany, IsPath, IsRef, AreParents}
use Rattle.schema_syntax_parser.specs.Syntax.{AreAnnotations, IsMark, IsType, IsRecord, AreAttrs, IsAttr, IsShape}
use Rattle.schema_syntax_parser.specs.Syntax.{AreTags, IsStringToken, is_role, IsApp, Applies, IsDecl, IsDeclared}
use Rattle.schema_syntax_parser.specs.Syntax.{IsItem, IsSyntax}
use Rattle.schema_syntax_parser.specs.Syntax as S

both : (u v : List Token) → kinds_of (u ++ v) ≡ kinds_of u ++ kinds_of v
both u v = map-append (λ (t : Token). t.kind) u v

before : (c : Token) (v : List Token) (k : TokenKind) (w : Kinds) → c.kind ≡ k → kinds_of v ≡ w
    → kinds_of (c ∷ v) ≡ k ∷ w
before c v k w e f = λ i. e i ∷ f i

between : (u : List Token) (c : Token) (v : List Token) (k : TokenKind) (w : Kinds) → c.kind ≡ k → kinds_of v ≡ w
    → kinds_of (u ++ c ∷ v) ≡ kinds_of u ++ k ∷ w
between u c v k w e f = both u (c ∷ v) ∙ ap (λ l. kinds_of u ++ l) (before c v k w e f)

closed : (u : List Token) (c : Token) (k : TokenKind) → c.kind ≡ k → kinds_of (u ++ c ∷ []) ≡ kinds_of u ++ k ∷ []
closed u c k e = between u c [] k [] e refl

after : (u v : List Token) (w : Kinds) → kinds_of v ≡ w → kinds_of (u ++ v) ≡ kinds_of u ++ w
after u v w f = both u v ∙ ap (λ l. kinds_of u ++ l) f

as_phrase : (p : Nonterminal) (u : List Token) (w : Kinds) → kinds_of u ≡ w → Phrase p w → Phrase p (kinds_of u)
as_phrase p u w e h = subst (Phrase p) (sym e) h

path_chain : {u ns : List Token} → IsChain PathSep is_ident u ns → Phrase path (kinds_of u)
path_chain (S.one h) = G.one_step h
path_chain (S.more {t = t} {s = s} {u = u} h k r) =
    as_phrase path (t ∷ s ∷ u) (t.kind ∷ PathSep ∷ kinds_of u) (λ i. t.kind ∷ k i ∷ kinds_of u)
    (G.more_steps h (path_chain r))

ident_chain : {u ns : List Token} → IsChain Comma is_ident u ns → Phrase idents (kinds_of u)
ident_chain (S.one h) = G.one_ident h
ident_chain (S.more {t = t} {s = s} {u = u} h k r) =
    as_phrase idents (t ∷ s ∷ u) (t.kind ∷ Comma ∷ kinds_of u) (λ i. t.kind ∷ k i ∷ kinds_of u)
    (G.more_idents h (ident_chain r))

name_chain : {u ns : List Token} → IsChain Comma is_name_kind u ns → Phrase names (kinds_of u)
name_chain (S.one {t = t} h) = G.one_name (one_token t.kind h)
name_chain (S.more {t = t} {s = s} {u = u} h k r) =
    as_phrase names (t ∷ s ∷ u) (t.kind ∷ Comma ∷ kinds_of u) (λ i. t.kind ∷ k i ∷ kinds_of u)
    (G.more_names (one_token t.kind h) (name_chain r))

one_path : {u : List Token} {p : PathSyntax} → IsPath u p → Phrase path (kinds_of u)
one_path (S.path h) = path_chain h

one_ref : {u : List Token} {p : PathSyntax} → IsRef u p → Phrase ref (kinds_of u)
one_ref (S.plain {t = t} h) = G.plain_ref (one_token t.kind h)
one_ref (S.typed {u = u} s q h ks kq) =
    as_phrase ref (u ++ s ∷ q ∷ []) (kinds_of u ++ PathSep ∷ StringLit ∷ [])
    (between u s (q ∷ []) PathSep (StringLit ∷ []) ks (λ i. kq i ∷ [])) (G.typed_ref (path_chain h))

path_list : {u : List Token} {ps : List PathSyntax} → AreSeparated IsPath u ps → Phrase paths (kinds_of u)
path_list S.none = G.no_path
path_list (S.last h) = G.last_path (one_path h)
path_list (S.more {u = u} {v = v} c h k r) =
    as_phrase paths (u ++ c ∷ v) (kinds_of u ++ Comma ∷ kinds_of v) (between u c v Comma (kinds_of v) k refl)
    (G.more_paths (one_path h) (path_list r))

ref_lists : {u : List Token} {ps : List PathSyntax} → AreSeparated IsRef u ps → Phrase ref_list (kinds_of u)
ref_lists S.none = G.no_ref
ref_lists (S.last h) = G.last_ref (one_ref h)
ref_lists (S.more {u = u} {v = v} c h k r) =
    as_phrase ref_list (u ++ c ∷ v) (kinds_of u ++ Comma ∷ kinds_of v) (between u c v Comma (kinds_of v) k refl)
    (G.more_refs (one_ref h) (ref_lists r))

all_types : {u : List Token} {ps : List PathSyntax} → AreListed IsPath u ps → Phrase types (kinds_of u)
all_types (S.single h) = G.one_type (one_path h)
all_types (S.listed {o = o} c {u = u} ko h kc) =
    as_phrase types (o ∷ (u ++ c ∷ [])) (LBracket ∷ (kinds_of u ++ RBracket ∷ []))
    (before o (u ++ c ∷ []) LBracket (kinds_of u ++ RBracket ∷ []) ko (closed u c RBracket kc))
    (G.listed_types (path_list h))

all_refs : {u : List Token} {ps : List PathSyntax} → AreListed IsRef u ps → Phrase refs (kinds_of u)
all_refs (S.single h) = G.one_ref (one_ref h)
all_refs (S.listed {o = o} c {u = u} ko h kc) =
    as_phrase refs (o ∷ (u ++ c ∷ [])) (LBracket ∷ (kinds_of u ++ RBracket ∷ []))
    (before o (u ++ c ∷ []) LBracket (kinds_of u ++ RBracket ∷ []) ko (closed u c RBracket kc))
    (G.listed_refs (ref_lists h))

all_parents : {u : List Token} {ps : List PathSyntax} → AreParents IsPath u ps → Phrase parents (kinds_of u)
all_parents S.no_parents = G.no_parents
all_parents (S.in_parents {i = i} {u = u} k h) =
    as_phrase parents (i ∷ u) (KwIn ∷ kinds_of u) (before i u KwIn (kinds_of u) k refl) (G.in_parents (all_types h))

ref_parents : {u : List Token} {ps : List PathSyntax} → AreParents IsRef u ps → Phrase in_refs (kinds_of u)
ref_parents S.no_parents = G.no_refs
ref_parents (S.in_parents {i = i} {u = u} k h) =
    as_phrase in_refs (i ∷ u) (KwIn ∷ kinds_of u) (before i u KwIn (kinds_of u) k refl) (G.some_refs (all_refs h))

annotation_list : {u : List Token} {xs : List AnnotationSyntax} → AreAnnotations u xs → Phrase anns (kinds_of u)
annotation_list S.none = G.no_ann
annotation_list (S.bare {a = a} {k = k} {u = u} ka kk r) =
    as_phrase anns (a ∷ k ∷ u) (At ∷ k.kind ∷ kinds_of u) (λ i. ka i ∷ k.kind ∷ kinds_of u)
    (G.bare_ann kk (annotation_list r))
annotation_list (S.valued {a = a} {k = k} {o = o} {v = v} {c = c} {u = u} ka kk ko kv kc r) =
    as_phrase anns (a ∷ k ∷ o ∷ v ∷ c ∷ u) (At ∷ k.kind ∷ LParen ∷ StringLit ∷ RParen ∷ kinds_of u)
    (λ i. ka i ∷ k.kind ∷ ko i ∷ kv i ∷ kc i ∷ kinds_of u) (G.valued_ann kk (annotation_list r))

one_mark : {u : List Token} {r : Bool} → IsMark u r → Phrase mark (kinds_of u)
one_mark S.no_mark = G.no_mark
one_mark (S.question {q = q} k) = as_phrase mark (q ∷ []) (Question ∷ []) (λ i. k i ∷ []) G.question

mutual
  one_type : {u : List Token} {t : TypeSyntax} → IsType u t → Phrase ty (kinds_of u)
  one_type (S.path_type h) = G.path_type (one_path h)
  one_type (S.set_type {s = s} {o = o} c {u = u} ks ko h kc) =
      as_phrase ty (s ∷ o ∷ (u ++ c ∷ [])) (KwSet ∷ Less ∷ (kinds_of u ++ Greater ∷ []))
      (before s (o ∷ (u ++ c ∷ [])) KwSet (Less ∷ (kinds_of u ++ Greater ∷ [])) ks
      (before o (u ++ c ∷ []) Less (kinds_of u ++ Greater ∷ []) ko (closed u c Greater kc))) (G.set_type (one_type h))
  one_type (S.record_type h) = G.record_type (one_record h)

  one_record : {u : List Token} {xs : List AttrSyntax} → IsRecord u xs → Phrase rec (kinds_of u)
  one_record (S.braces {o = o} c {u = u} ko h kc) =
      as_phrase rec (o ∷ (u ++ c ∷ [])) (LBrace ∷ (kinds_of u ++ RBrace ∷ []))
      (before o (u ++ c ∷ []) LBrace (kinds_of u ++ RBrace ∷ []) ko (closed u c RBrace kc)) (G.braces (attr_list h))

  attr_list : {u : List Token} {xs : List AttrSyntax} → AreAttrs u xs → Phrase attrs (kinds_of u)
  attr_list S.no_attr = G.no_attr
  attr_list (S.last_attr h) = G.last_attr (one_attr h)
  attr_list (S.more_attrs {u = u} {v = v} c h k r) =
      as_phrase attrs (u ++ c ∷ v) (kinds_of u ++ Comma ∷ kinds_of v) (between u c v Comma (kinds_of v) k refl)
      (G.more_attrs (one_attr h) (attr_list r))

  one_attr : {u : List Token} {x : AttrSyntax} → IsAttr u x → Phrase attr (kinds_of u)
  one_attr (S.attr n c {a = a} {m = m} {u = u} ha hn hm kc ht) =
      as_phrase attr (a ++ n ∷ (m ++ c ∷ u)) (kinds_of a ++ n.kind ∷ (kinds_of m ++ Colon ∷ kinds_of u))
      (between a n (m ++ c ∷ u) n.kind (kinds_of m ++ Colon ∷ kinds_of u) refl
      (between m c u Colon (kinds_of u) kc refl))
      (G.one_attr (annotation_list ha) (one_token n.kind hn) (one_mark hm) (one_type ht))

one_shape : {u : List Token} {x : Option (List AttrSyntax × Span)} → IsShape u x → Phrase shape (kinds_of u)
one_shape S.no_shape = G.no_shape
one_shape (S.bare_shape h) = G.bare_shape (one_record h)
one_shape (S.equals_shape {e = e} {u = u} k h) =
    as_phrase shape (e ∷ u) (Equals ∷ kinds_of u) (before e u Equals (kinds_of u) k refl)
    (G.equals_shape (one_record h))

all_tags : {u : List Token} {x : Option TypeSyntax} → AreTags u x → Phrase tags (kinds_of u)
all_tags S.no_tags = G.no_tags
all_tags (S.some_tags {w = w} {u = u} k h) =
    as_phrase tags (w ∷ u) (KwTags ∷ kinds_of u) (before w u KwTags (kinds_of u) k refl) (G.some_tags (one_type h))

all_strings : {u xs : List Token} → AreSeparated IsStringToken u xs → Phrase strings (kinds_of u)
all_strings S.none = G.no_string
all_strings (S.last (S.string {t = t} k)) = as_phrase strings (t ∷ []) (StringLit ∷ []) (λ i. k i ∷ []) G.last_string
all_strings (S.more {v = v} c (S.string {t = t} k) kc r) =
    as_phrase strings (t ∷ c ∷ v) (StringLit ∷ Comma ∷ kinds_of v) (λ i. k i ∷ kc i ∷ kinds_of v)
    (G.more_strings (all_strings r))

by_role : (k : TokenKind) (w : Kinds) → is_role k ≡ true → Phrase types w → Phrase app (k ∷ Colon ∷ w)
by_role KwPrincipal w h p = G.principal_app p
by_role KwResource w h p = G.resource_app p
by_role _ w h p = cc

one_app : {u : List Token} {x : AppSyntax} → IsApp u x → Phrase app (kinds_of u)
one_app (S.types {w = w} {c = c} {u = u} hr kc h) =
    as_phrase app (w ∷ c ∷ u) (w.kind ∷ Colon ∷ kinds_of u) (λ i. w.kind ∷ kc i ∷ kinds_of u)
    (by_role w.kind (kinds_of u) hr (all_types h))
one_app (S.context_path {w = w} {c = c} {u = u} kw kc h) =
    as_phrase app (w ∷ c ∷ u) (KwContext ∷ Colon ∷ kinds_of u) (λ i. kw i ∷ kc i ∷ kinds_of u)
    (G.context_path (one_path h))
one_app (S.context_record {w = w} {c = c} {u = u} kw kc h) =
    as_phrase app (w ∷ c ∷ u) (KwContext ∷ Colon ∷ kinds_of u) (λ i. kw i ∷ kc i ∷ kinds_of u)
    (G.context_record (one_record h))

all_apps : {u : List Token} {xs : List AppSyntax} → AreSeparated IsApp u xs → Phrase apps (kinds_of u)
all_apps S.none = G.no_app
all_apps (S.last h) = G.last_app (one_app h)
all_apps (S.more {u = u} {v = v} c h k r) =
    as_phrase apps (u ++ c ∷ v) (kinds_of u ++ Comma ∷ kinds_of v) (between u c v Comma (kinds_of v) k refl)
    (G.more_apps (one_app h) (all_apps r))

all_applies : {u : List Token} {x : Option (List AppSyntax × Span)} → Applies u x → Phrase applies (kinds_of u)
all_applies S.no_applies = G.no_applies
all_applies (S.some_applies {w = w} {o = o} c {u = u} kw ko h kc) =
    as_phrase applies (w ∷ o ∷ (u ++ c ∷ [])) (KwAppliesTo ∷ LBrace ∷ (kinds_of u ++ RBrace ∷ []))
    (before w (o ∷ (u ++ c ∷ [])) KwAppliesTo (LBrace ∷ (kinds_of u ++ RBrace ∷ [])) kw
    (before o (u ++ c ∷ []) LBrace (kinds_of u ++ RBrace ∷ []) ko (closed u c RBrace kc)))
    (G.some_applies (all_apps h))

one_decl : {u : List Token} {x : DeclSyntax} → IsDecl u x → Phrase bare_decl (kinds_of u)
one_decl (S.entity_decl {e = e} z {i = i} {p = p} {s = s} {t = t} ke hi hp hs ht kz) =
    let w4 = kinds_of t ++ Semi ∷ [] in
    let w3 = kinds_of s ++ w4 in
    let w2 = kinds_of p ++ w3 in
    as_phrase bare_decl (e ∷ (i ++ (p ++ (s ++ (t ++ z ∷ []))))) (KwEntity ∷ (kinds_of i ++ w2))
    (before e (i ++ (p ++ (s ++ (t ++ z ∷ [])))) KwEntity (kinds_of i ++ w2) ke
    (after i (p ++ (s ++ (t ++ z ∷ []))) w2
    (after p (s ++ (t ++ z ∷ [])) w3 (after s (t ++ z ∷ []) w4 (closed t z Semi kz)))))
    (G.entity_decl (ident_chain hi) (all_parents hp) (one_shape hs) (all_tags ht))
one_decl (S.enum_decl {e = e} n o c z {i = i} {s = s} ke hi kn ko hs kc kz) =
    let w = kinds_of s ++ RBracket ∷ Semi ∷ [] in
    as_phrase bare_decl (e ∷ (i ++ n ∷ o ∷ (s ++ c ∷ z ∷ []))) (KwEntity ∷ (kinds_of i ++ KwEnum ∷ LBracket ∷ w))
    (before e (i ++ n ∷ o ∷ (s ++ c ∷ z ∷ [])) KwEntity (kinds_of i ++ KwEnum ∷ LBracket ∷ w) ke
    (between i n (o ∷ (s ++ c ∷ z ∷ [])) KwEnum (LBracket ∷ w) kn
    (before o (s ++ c ∷ z ∷ []) LBracket w ko (between s c (z ∷ []) RBracket (Semi ∷ []) kc (λ i. kz i ∷ [])))))
    (G.enum_decl (ident_chain hi) (all_strings hs))
one_decl (S.external_entity {x = x} {e = e} z {i = i} {p = p} kx ke hi hp kz) =
    let w = kinds_of p ++ Semi ∷ [] in
    as_phrase bare_decl (x ∷ e ∷ (i ++ (p ++ z ∷ []))) (KwExternal ∷ KwEntity ∷ (kinds_of i ++ w))
    (before x (e ∷ (i ++ (p ++ z ∷ []))) KwExternal (KwEntity ∷ (kinds_of i ++ w)) kx
    (before e (i ++ (p ++ z ∷ [])) KwEntity (kinds_of i ++ w) ke (after i (p ++ z ∷ []) w (closed p z Semi kz))))
    (G.external_entity (ident_chain hi) (all_parents hp))
one_decl (S.action_decl {a = a} z {n = n} {r = r} {s = s} ka hn hr hs kz) =
    let w3 = kinds_of s ++ Semi ∷ [] in
    let w2 = kinds_of r ++ w3 in
    as_phrase bare_decl (a ∷ (n ++ (r ++ (s ++ z ∷ [])))) (KwAction ∷ (kinds_of n ++ w2))
    (before a (n ++ (r ++ (s ++ z ∷ []))) KwAction (kinds_of n ++ w2) ka
    (after n (r ++ (s ++ z ∷ [])) w2 (after r (s ++ z ∷ []) w3 (closed s z Semi kz))))
    (G.action_decl (name_chain hn) (ref_parents hr) (all_applies hs))
one_decl (S.external_action {x = x} {a = a} z {n = n} {r = r} kx ka hn hr kz) =
    let w = kinds_of r ++ Semi ∷ [] in
    as_phrase bare_decl (x ∷ a ∷ (n ++ (r ++ z ∷ []))) (KwExternal ∷ KwAction ∷ (kinds_of n ++ w))
    (before x (a ∷ (n ++ (r ++ z ∷ []))) KwExternal (KwAction ∷ (kinds_of n ++ w)) kx
    (before a (n ++ (r ++ z ∷ [])) KwAction (kinds_of n ++ w) ka (after n (r ++ z ∷ []) w (closed r z Semi kz))))
    (G.external_action (name_chain hn) (ref_parents hr))
one_decl (S.common_decl {w = w} {n = n} {e = e} z {u = u} kw hn ke h kz) =
    let v = kinds_of u ++ Semi ∷ [] in
    as_phrase bare_decl (w ∷ n ∷ e ∷ (u ++ z ∷ [])) (KwType ∷ n.kind ∷ Equals ∷ v)
    (before w (n ∷ e ∷ (u ++ z ∷ [])) KwType (n.kind ∷ Equals ∷ v) kw
    (before n (e ∷ (u ++ z ∷ [])) n.kind (Equals ∷ v) refl (before e (u ++ z ∷ []) Equals v ke (closed u z Semi kz))))
    (G.common_decl hn (one_type h))

one_declared : {u : List Token} {x : DeclaredSyntax} → IsDeclared u x → Phrase decl (kinds_of u)
one_declared (S.declared {a = a} {u = u} ha h) =
    as_phrase decl (a ++ u) (kinds_of a ++ kinds_of u) (both a u) (G.annotated (annotation_list ha) (one_decl h))

all_declared : {u : List Token} {xs : List DeclaredSyntax} → AreMany IsDeclared u xs → Phrase decls (kinds_of u)
all_declared S.none = G.no_decl
all_declared (S.more {u = u} {v = v} h r) =
    as_phrase decls (u ++ v) (kinds_of u ++ kinds_of v) (both u v) (G.more_decls (one_declared h) (all_declared r))

one_item : {u : List Token} {x : ItemSyntax} → IsItem u x → Phrase item (kinds_of u)
one_item (S.namespace n o c {a = a} {p = p} {u = u} ha kn hp ko hd kc) =
    let w2 = kinds_of u ++ RBrace ∷ [] in
    let w1 = kinds_of p ++ LBrace ∷ w2 in
    as_phrase item (a ++ n ∷ (p ++ o ∷ (u ++ c ∷ []))) (kinds_of a ++ KwNamespace ∷ w1)
    (between a n (p ++ o ∷ (u ++ c ∷ [])) KwNamespace w1 kn
    (between p o (u ++ c ∷ []) LBrace w2 ko (closed u c RBrace kc)))
    (G.namespace_item (annotation_list ha) (one_path hp) (all_declared hd))
one_item (S.outside h) = G.decl_item (one_declared h)

pub sentence_of : {u : List Token} {xs : List ItemSyntax} → IsSyntax u xs → Phrase schema (kinds_of u)
sentence_of S.none = G.no_item
sentence_of (S.more {u = u} {v = v} h r) =
    as_phrase schema (u ++ v) (kinds_of u ++ kinds_of v) (both u v) (G.more_items (one_item h) (sentence_of r))
