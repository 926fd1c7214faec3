-- Tokens whose kinds are those of a schema have a syntax.
use Rattle.std.proofs.Common.{◌≡◌, List, [], ◌∷◌, ◌++◌, Bool, true, refl, sym, ap, ◌∙◌, subst}
use Rattle.schema_syntax_grammar.specs.declared.token_kind.TokenKind.{TokenKind}
use Rattle.schema_syntax_grammar.specs.declared.token_kind.TokenKind.TheVariants.{KwNamespace, KwEntity, KwExternal}
use Rattle.schema_syntax_grammar.specs.declared.token_kind.TokenKind.TheVariants.{KwIn, KwType, KwSet, KwAppliesTo}
use Rattle.schema_syntax_grammar.specs.declared.token_kind.TokenKind.TheVariants.{KwPrincipal, KwAction, KwResource}
use Rattle.schema_syntax_grammar.specs.declared.token_kind.TokenKind.TheVariants.{KwContext, KwTags, KwEnum, StringLit}
use Rattle.schema_syntax_grammar.specs.declared.token_kind.TokenKind.TheVariants.{At, Comma, Semi, Colon, PathSep}
use Rattle.schema_syntax_grammar.specs.declared.token_kind.TokenKind.TheVariants.{LParen, RParen, LBrace, RBrace}
use Rattle.schema_syntax_grammar.specs.declared.token_kind.TokenKind.TheVariants.{LBracket, RBracket, Less, Greater}
use Rattle.schema_syntax_grammar.specs.declared.token_kind.TokenKind.TheVariants.{Question, Equals}
use Rattle.schema_syntax_grammar.specs.Grammar.{is_word_kind, is_ident, Nonterminal, schema, item, decls, decl}
use Rattle.schema_syntax_grammar.specs.Grammar.{bare_decl}
use Rattle.schema_syntax_grammar.specs.Grammar.{idents, parents, shape, tags, strings, names, name, in_refs, applies}
use Rattle.schema_syntax_grammar.specs.Grammar.{apps, app, types, paths, refs, ref_list, ref, ty, rec, attrs, attr}
use Rattle.schema_syntax_grammar.specs.Grammar.{mark, path, anns, Phrase, is_name_kind}
use Rattle.schema_syntax_grammar.specs.Grammar as G
use Rattle.schema_syntax_grammar.proofs.Complete.{ident_is_name}
use Rattle.schema_syntax_tokens.specs.declared.token.Token.{Token}
use Rattle.schema_syntax_tokens.specs.TokenLists.{kinds_of}
use Rattle.schema_syntax_parser.specs.Syntax.{IsChain, AreSeparated, AreListed, AreMany, IsPath, IsRef, AreParents}
use Rattle.schema_syntax_parser.specs.Syntax.{AreAnnotations, IsMark, IsType, IsRecord, AreAttrs, IsAttr, IsShape}
use Rattle.schema_syntax_parser.specs.Syntax.{AreTags, IsStringToken, is_role, IsApp, Applies, IsDecl, IsDeclared}
use Rattle.schema_syntax_parser.specs.Syntax.{IsItem}
use Rattle.schema_syntax_parser.specs.Syntax as S

record Split (u : List Token) (a b : List TokenKind) : Type 0 where
  left : List Token
  right : List Token
  whole : u ≡ left ++ right
  first : kinds_of left ≡ a
  second : kinds_of right ≡ b

record Front (u : List Token) (k : TokenKind) (b : List TokenKind) : Type 0 where
  token : Token
  right : List Token
  whole : u ≡ token ∷ right
  is : token.kind ≡ k
  second : kinds_of right ≡ b

front : (u : List Token) (k : TokenKind) (b : List TokenKind) → kinds_of u ≡ k ∷ b → Front u k b
front [] k b e = cc
front (t ∷ u) k b e = record { token = t; right = u; whole = refl; is = cc; second = cc }

split : (a b : List TokenKind) (u : List Token) → kinds_of u ≡ a ++ b → Split u a b
split [] b u e = record { left = []; right = u; whole = refl; first = refl; second = e }
split (k ∷ a) b u e =
    let f = front u k (a ++ b) e in
    let s = split a b f.right f.second in
    record {
      left = f.token ∷ s.left;
      right = s.right;
      whole = f.whole
          ∙ ap (λ v. f.token ∷ v) s.whole;
      first = rw (f.is, s.first) refl;
      second = s.second;
    }

none : (u : List Token) → kinds_of u ≡ [] → u ≡ []
none [] e = refl
none (t ∷ u) e = cc

-- two parts with a token between them
record Between (u : List Token) (a : List TokenKind) (k : TokenKind) (b : List TokenKind) : Type 0 where
  left : List Token
  token : Token
  right : List Token
  whole : u ≡ left ++ token ∷ right
  first : kinds_of left ≡ a
  is : token.kind ≡ k
  second : kinds_of right ≡ b

between : (a b : List TokenKind) (k : TokenKind) (u : List Token) → kinds_of u ≡ a ++ k ∷ b → Between u a k b
between a b k u e =
    let s = split a (k ∷ b) u e in
    let f = front s.right k b s.second in
    record {
      left = s.left;
      token = f.token;
      right = f.right;
      whole = s.whole
          ∙ ap (λ v. s.left ++ v) f.whole;
      first = s.first;
      is = f.is;
      second = f.second;
    }

-- a part and one token behind it
record Closed (u : List Token) (a : List TokenKind) (k : TokenKind) : Type 0 where
  left : List Token
  token : Token
  whole : u ≡ left ++ token ∷ []
  first : kinds_of left ≡ a
  is : token.kind ≡ k

closed : (a : List TokenKind) (k : TokenKind) (u : List Token) → kinds_of u ≡ a ++ k ∷ [] → Closed u a k
closed a k u e =
    let b = between a [] k u e in
    record {
      left = b.left;
      token = b.token;
      whole = b.whole
          ∙ ap (λ v. b.left ++ b.token ∷ v) (none b.right b.second);
      first = b.first;
      is = b.is;
    }

-- one token alone
record Alone (u : List Token) (k : TokenKind) : Type 0 where
  token : Token
  whole : u ≡ token ∷ []
  is : token.kind ≡ k

alone : (k : TokenKind) (u : List Token) → kinds_of u ≡ k ∷ [] → Alone u k
alone k u e = let f = front u k [] e in
    record { token = f.token; whole = f.whole ∙ ap (λ v. f.token ∷ v) (none f.right f.second); is = f.is }

as_kind : (P : TokenKind → Bool) (k j : TokenKind) → k ≡ j → P j ≡ true → P k ≡ true
as_kind P k j e h = subst (λ i. P i ≡ true) (sym e) h

abbrev Has : {A : Type 0} → (List Token → A → Type 0) → List Token → Type 0
Has {A} P u = (x : A) × P u x

abbrev IsName : List Token → Token → Type 0
IsName u t = (u ≡ t ∷ []) × (is_name_kind t.kind ≡ true)

abbrev Made : Nonterminal → List Token → Type 0
Made schema u = Has (AreMany IsItem) u
Made item u = Has IsItem u
Made decls u = Has (AreMany IsDeclared) u
Made decl u = Has IsDeclared u
Made bare_decl u = Has IsDecl u
Made idents u = Has (IsChain Comma is_ident) u
Made parents u = Has (AreParents IsPath) u
Made shape u = Has IsShape u
Made tags u = Has AreTags u
Made strings u = Has (AreSeparated IsStringToken) u
Made names u = Has (IsChain Comma is_name_kind) u
Made name u = Has IsName u
Made in_refs u = Has (AreParents IsRef) u
Made applies u = Has Applies u
Made apps u = Has (AreSeparated IsApp) u
Made app u = Has IsApp u
Made types u = Has (AreListed IsPath) u
Made paths u = Has (AreSeparated IsPath) u
Made refs u = Has (AreListed IsRef) u
Made ref_list u = Has (AreSeparated IsRef) u
Made ref u = Has IsRef u
Made ty u = Has IsType u
Made rec u = Has IsRecord u
Made attrs u = Has AreAttrs u
Made attr u = Has IsAttr u
Made mark u = Has IsMark u
Made path u = Has (IsChain PathSep is_ident) u
Made anns u = Has AreAnnotations u

along : {A : Type 0} (P : List Token → A → Type 0) (u v : List Token) → u ≡ v → Has P v → Has P u
along P u v e h = subst (Has P) (sym e) h

pub made : {p : Nonterminal} {w : List TokenKind} → Phrase p w → (u : List Token) → kinds_of u ≡ w → Made p u
made G.no_item u e = along (AreMany IsItem) u [] (none u e) (_, S.none)
made (G.more_items {a = a} {b = b} p q) u e =
    let s = split a b u e in
    let x = made p s.left s.first in
    let y = made q s.right s.second in
    along (AreMany IsItem) u _ s.whole (_, S.more x.1 y.1)
made (G.namespace_item {a = a} {p = p} {d = d} x y z) u e =
    let one = between a (p ++ LBrace ∷ (d ++ RBrace ∷ [])) KwNamespace u e in
    let two = between p (d ++ RBrace ∷ []) LBrace one.right one.second in
    let three = closed d RBrace two.right two.second in
    let i = made x one.left one.first in
    let j = made y two.left two.first in
    let k = made z three.left three.first in
    let whole = one.whole ∙ ap (λ v. one.left ++ one.token ∷ v)
    (two.whole ∙ ap (λ v. two.left ++ two.token ∷ v) three.whole) in
    along IsItem u _ whole (_, S.namespace one.token two.token three.token i.1 one.is (S.path j.1) two.is k.1 three.is)
made (G.decl_item p) u e = let m = made p u e in (_, S.outside m.1)
made G.no_decl u e = along (AreMany IsDeclared) u [] (none u e) (_, S.none)
made (G.more_decls {a = a} {b = b} p q) u e =
    let s = split a b u e in
    let x = made p s.left s.first in
    let y = made q s.right s.second in
    along (AreMany IsDeclared) u _ s.whole (_, S.more x.1 y.1)
made (G.annotated {a = a} {b = b} p q) u e =
    let s = split a b u e in
    let x = made p s.left s.first in
    let y = made q s.right s.second in
    along IsDeclared u _ s.whole (_, S.declared x.1 y.1)
made (G.entity_decl {i = i} {p = p} {s = s} {t = t} x y z w) u e =
    let f = front u KwEntity (i ++ (p ++ (s ++ (t ++ Semi ∷ [])))) e in
    let one = split i (p ++ (s ++ (t ++ Semi ∷ []))) f.right f.second in
    let two = split p (s ++ (t ++ Semi ∷ [])) one.right one.second in
    let three = split s (t ++ Semi ∷ []) two.right two.second in
    let c = closed t Semi three.right three.second in
    let a = made x one.left one.first in
    let b = made y two.left two.first in
    let d = made z three.left three.first in
    let g = made w c.left c.first in
    let whole = f.whole ∙ ap (λ v. f.token ∷ v)
    (one.whole ∙ ap (λ v. one.left ++ v)
    (two.whole ∙ ap (λ v. two.left ++ v) (three.whole ∙ ap (λ v. three.left ++ v) c.whole))) in
    along IsDecl u _ whole (_, S.entity_decl c.token f.is a.1 b.1 d.1 g.1 c.is)
made (G.enum_decl {i = i} {s = s} x y) u e =
    let f = front u KwEntity (i ++ KwEnum ∷ LBracket ∷ (s ++ RBracket ∷ Semi ∷ [])) e in
    let one = between i (LBracket ∷ (s ++ RBracket ∷ Semi ∷ [])) KwEnum f.right f.second in
    let o = front one.right LBracket (s ++ RBracket ∷ Semi ∷ []) one.second in
    let two = between s (Semi ∷ []) RBracket o.right o.second in
    let z = alone Semi two.right two.second in
    let a = made x one.left one.first in
    let b = made y two.left two.first in
    let whole = f.whole ∙ ap (λ v. f.token ∷ v)
    (one.whole ∙ ap (λ v. one.left ++ one.token ∷ v)
    (o.whole ∙ ap (λ v. o.token ∷ v) (two.whole ∙ ap (λ v. two.left ++ two.token ∷ v) z.whole))) in
    along IsDecl u _ whole (_, S.enum_decl one.token o.token two.token z.token f.is a.1 one.is o.is b.1 two.is z.is)
made (G.external_entity {i = i} {p = p} x y) u e =
    let f = front u KwExternal (KwEntity ∷ (i ++ (p ++ Semi ∷ []))) e in
    let g = front f.right KwEntity (i ++ (p ++ Semi ∷ [])) f.second in
    let one = split i (p ++ Semi ∷ []) g.right g.second in
    let c = closed p Semi one.right one.second in
    let a = made x one.left one.first in
    let b = made y c.left c.first in
    let whole = f.whole ∙ ap (λ v. f.token ∷ v)
    (g.whole ∙ ap (λ v. g.token ∷ v) (one.whole ∙ ap (λ v. one.left ++ v) c.whole)) in
    along IsDecl u _ whole (_, S.external_entity c.token f.is g.is a.1 b.1 c.is)
made (G.action_decl {n = n} {r = r} {a = a} x y z) u e =
    let f = front u KwAction (n ++ (r ++ (a ++ Semi ∷ []))) e in
    let one = split n (r ++ (a ++ Semi ∷ [])) f.right f.second in
    let two = split r (a ++ Semi ∷ []) one.right one.second in
    let c = closed a Semi two.right two.second in
    let i = made x one.left one.first in
    let j = made y two.left two.first in
    let k = made z c.left c.first in
    let whole = f.whole ∙ ap (λ v. f.token ∷ v)
    (one.whole ∙ ap (λ v. one.left ++ v) (two.whole ∙ ap (λ v. two.left ++ v) c.whole)) in
    along IsDecl u _ whole (_, S.action_decl c.token f.is i.1 j.1 k.1 c.is)
made (G.external_action {n = n} {r = r} x y) u e =
    let f = front u KwExternal (KwAction ∷ (n ++ (r ++ Semi ∷ []))) e in
    let g = front f.right KwAction (n ++ (r ++ Semi ∷ [])) f.second in
    let one = split n (r ++ Semi ∷ []) g.right g.second in
    let c = closed r Semi one.right one.second in
    let a = made x one.left one.first in
    let b = made y c.left c.first in
    let whole = f.whole ∙ ap (λ v. f.token ∷ v)
    (g.whole ∙ ap (λ v. g.token ∷ v) (one.whole ∙ ap (λ v. one.left ++ v) c.whole)) in
    along IsDecl u _ whole (_, S.external_action c.token f.is g.is a.1 b.1 c.is)
made (G.common_decl {i = i} {t = t} h x) u e =
    let f = front u KwType (i ∷ Equals ∷ (t ++ Semi ∷ [])) e in
    let g = front f.right i (Equals ∷ (t ++ Semi ∷ [])) f.second in
    let o = front g.right Equals (t ++ Semi ∷ []) g.second in
    let c = closed t Semi o.right o.second in
    let a = made x c.left c.first in
    let whole = f.whole ∙ ap (λ v. f.token ∷ v)
    (g.whole ∙ ap (λ v. g.token ∷ v) (o.whole ∙ ap (λ v. o.token ∷ v) c.whole)) in
    along IsDecl u _ whole (_, S.common_decl c.token f.is (as_kind is_ident g.token.kind i g.is h) o.is a.1 c.is)
made (G.one_ident {i = i} h) u e =
    let a = alone i u e in
    along (IsChain Comma is_ident) u _ a.whole (_, S.one (as_kind is_ident a.token.kind i a.is h))
made (G.more_idents {i = i} {a = a} h p) u e =
    let f = front u i (Comma ∷ a) e in
    let g = front f.right Comma a f.second in
    let m = made p g.right g.second in
    along (IsChain Comma is_ident) u _ (f.whole ∙ ap (λ v. f.token ∷ v) g.whole)
    (_, S.more (as_kind is_ident f.token.kind i f.is h) g.is m.1)
made G.no_parents u e = along (AreParents IsPath) u [] (none u e) (_, S.no_parents)
made (G.in_parents {a = a} p) u e =
    let f = front u KwIn a e in
    let m = made p f.right f.second in
    along (AreParents IsPath) u _ f.whole (_, S.in_parents f.is m.1)
made G.no_shape u e = along IsShape u [] (none u e) (_, S.no_shape)
made (G.bare_shape p) u e = let m = made p u e in (_, S.bare_shape m.1)
made (G.equals_shape {a = a} p) u e =
    let f = front u Equals a e in
    let m = made p f.right f.second in
    along IsShape u _ f.whole (_, S.equals_shape f.is m.1)
made G.no_tags u e = along AreTags u [] (none u e) (_, S.no_tags)
made (G.some_tags {a = a} p) u e =
    let f = front u KwTags a e in
    let m = made p f.right f.second in
    along AreTags u _ f.whole (_, S.some_tags f.is m.1)
made G.no_string u e = along (AreSeparated IsStringToken) u [] (none u e) (_, S.none)
made G.last_string u e =
    let a = alone StringLit u e in
    along (AreSeparated IsStringToken) u _ a.whole (_, S.last (S.string a.is))
made (G.more_strings {a = a} p) u e =
    let f = front u StringLit (Comma ∷ a) e in
    let g = front f.right Comma a f.second in
    let m = made p g.right g.second in
    along (AreSeparated IsStringToken) u _ (f.whole ∙ ap (λ v. f.token ∷ v) g.whole)
    (_, S.more g.token (S.string f.is) g.is m.1)
made (G.one_name p) u e = let m = made p u e in along (IsChain Comma is_name_kind) u _ m.1.0 (_, S.one m.1.1)
made (G.more_names {a = a} {b = b} p q) u e =
    let c = between a b Comma u e in
    let m = made p c.left c.first in
    let n = made q c.right c.second in
    along (IsChain Comma is_name_kind) u _ (c.whole ∙ ap (λ v. v ++ c.token ∷ c.right) m.1.0) (_, S.more m.1.1 c.is n.1)
made (G.ident_name {i = i} h) u e =
    let a = alone i u e in (a.token, (a.whole, ident_is_name a.token.kind (as_kind is_ident a.token.kind i a.is h)))
made G.string_name u e = let a = alone StringLit u e in (a.token, (a.whole, rw a.is refl))
made G.no_refs u e = along (AreParents IsRef) u [] (none u e) (_, S.no_parents)
made (G.some_refs {a = a} p) u e =
    let f = front u KwIn a e in
    let m = made p f.right f.second in
    along (AreParents IsRef) u _ f.whole (_, S.in_parents f.is m.1)
made G.no_applies u e = along Applies u [] (none u e) (_, S.no_applies)
made (G.some_applies {a = a} p) u e =
    let f = front u KwAppliesTo (LBrace ∷ (a ++ RBrace ∷ [])) e in
    let g = front f.right LBrace (a ++ RBrace ∷ []) f.second in
    let c = closed a RBrace g.right g.second in
    let m = made p c.left c.first in
    along Applies u _ (f.whole ∙ ap (λ v. f.token ∷ v) (g.whole ∙ ap (λ v. g.token ∷ v) c.whole))
    (_, S.some_applies c.token f.is g.is m.1 c.is)
made G.no_app u e = along (AreSeparated IsApp) u [] (none u e) (_, S.none)
made (G.last_app p) u e = let m = made p u e in (_, S.last m.1)
made (G.more_apps {a = a} {b = b} p q) u e =
    let c = between a b Comma u e in
    let m = made p c.left c.first in
    let n = made q c.right c.second in
    along (AreSeparated IsApp) u _ c.whole (_, S.more c.token m.1 c.is n.1)
made (G.principal_app {a = a} p) u e =
    let f = front u KwPrincipal (Colon ∷ a) e in
    let g = front f.right Colon a f.second in
    let m = made p g.right g.second in
    along IsApp u _ (f.whole ∙ ap (λ v. f.token ∷ v) g.whole)
    (_, S.types (as_kind is_role f.token.kind KwPrincipal f.is refl) g.is m.1)
made (G.resource_app {a = a} p) u e =
    let f = front u KwResource (Colon ∷ a) e in
    let g = front f.right Colon a f.second in
    let m = made p g.right g.second in
    along IsApp u _ (f.whole ∙ ap (λ v. f.token ∷ v) g.whole)
    (_, S.types (as_kind is_role f.token.kind KwResource f.is refl) g.is m.1)
made (G.context_path {a = a} p) u e =
    let f = front u KwContext (Colon ∷ a) e in
    let g = front f.right Colon a f.second in
    let m = made p g.right g.second in
    along IsApp u _ (f.whole ∙ ap (λ v. f.token ∷ v) g.whole) (_, S.context_path f.is g.is (S.path m.1))
made (G.context_record {a = a} p) u e =
    let f = front u KwContext (Colon ∷ a) e in
    let g = front f.right Colon a f.second in
    let m = made p g.right g.second in
    along IsApp u _ (f.whole ∙ ap (λ v. f.token ∷ v) g.whole) (_, S.context_record f.is g.is m.1)
made (G.one_type p) u e = let m = made p u e in (_, S.single (S.path m.1))
made (G.listed_types {a = a} p) u e =
    let f = front u LBracket (a ++ RBracket ∷ []) e in
    let c = closed a RBracket f.right f.second in
    let m = made p c.left c.first in
    along (AreListed IsPath) u _ (f.whole ∙ ap (λ v. f.token ∷ v) c.whole) (_, S.listed c.token f.is m.1 c.is)
made G.no_path u e = along (AreSeparated IsPath) u [] (none u e) (_, S.none)
made (G.last_path p) u e = let m = made p u e in (_, S.last (S.path m.1))
made (G.more_paths {a = a} {b = b} p q) u e =
    let c = between a b Comma u e in
    let m = made p c.left c.first in
    let n = made q c.right c.second in
    along (AreSeparated IsPath) u _ c.whole (_, S.more c.token (S.path m.1) c.is n.1)
made (G.one_ref p) u e = let m = made p u e in (_, S.single m.1)
made (G.listed_refs {a = a} p) u e =
    let f = front u LBracket (a ++ RBracket ∷ []) e in
    let c = closed a RBracket f.right f.second in
    let m = made p c.left c.first in
    along (AreListed IsRef) u _ (f.whole ∙ ap (λ v. f.token ∷ v) c.whole) (_, S.listed c.token f.is m.1 c.is)
made G.no_ref u e = along (AreSeparated IsRef) u [] (none u e) (_, S.none)
made (G.last_ref p) u e = let m = made p u e in (_, S.last m.1)
made (G.more_refs {a = a} {b = b} p q) u e =
    let c = between a b Comma u e in
    let m = made p c.left c.first in
    let n = made q c.right c.second in
    along (AreSeparated IsRef) u _ c.whole (_, S.more c.token m.1 c.is n.1)
made (G.plain_ref p) u e = let m = made p u e in along IsRef u _ m.1.0 (_, S.plain m.1.1)
made (G.typed_ref {a = a} p) u e =
    let c = between a (StringLit ∷ []) PathSep u e in
    let q = alone StringLit c.right c.second in
    let m = made p c.left c.first in
    along IsRef u _ (c.whole ∙ ap (λ v. c.left ++ c.token ∷ v) q.whole) (_, S.typed c.token q.token m.1 c.is q.is)
made (G.path_type p) u e = let m = made p u e in (_, S.path_type (S.path m.1))
made (G.set_type {a = a} p) u e =
    let f = front u KwSet (Less ∷ (a ++ Greater ∷ [])) e in
    let g = front f.right Less (a ++ Greater ∷ []) f.second in
    let c = closed a Greater g.right g.second in
    let m = made p c.left c.first in
    along IsType u _ (f.whole ∙ ap (λ v. f.token ∷ v) (g.whole ∙ ap (λ v. g.token ∷ v) c.whole))
    (_, S.set_type c.token f.is g.is m.1 c.is)
made (G.record_type p) u e = let m = made p u e in (_, S.record_type m.1)
made (G.braces {a = a} p) u e =
    let f = front u LBrace (a ++ RBrace ∷ []) e in
    let c = closed a RBrace f.right f.second in
    let m = made p c.left c.first in
    along IsRecord u _ (f.whole ∙ ap (λ v. f.token ∷ v) c.whole) (_, S.braces c.token f.is m.1 c.is)
made G.no_attr u e = along AreAttrs u [] (none u e) (_, S.no_attr)
made (G.last_attr p) u e = let m = made p u e in (_, S.last_attr m.1)
made (G.more_attrs {a = a} {b = b} p q) u e =
    let c = between a b Comma u e in
    let m = made p c.left c.first in
    let n = made q c.right c.second in
    along AreAttrs u _ c.whole (_, S.more_attrs c.token m.1 c.is n.1)
made (G.one_attr {a = a} {n = n} {m = m} {t = t} x y z w) u e =
    let one = split a (n ++ (m ++ Colon ∷ t)) u e in
    let two = split n (m ++ Colon ∷ t) one.right one.second in
    let c = between m t Colon two.right two.second in
    let i = made x one.left one.first in
    let j = made y two.left two.first in
    let k = made z c.left c.first in
    let l = made w c.right c.second in
    let whole = one.whole ∙ ap (λ v. one.left ++ v)
    (two.whole ∙ (ap (λ v. v ++ two.right) j.1.0 ∙ ap (λ v. j.0 ∷ v) c.whole)) in
    along IsAttr u _ whole (_, S.attr j.0 c.token i.1 j.1.1 k.1 c.is l.1)
made G.no_mark u e = along IsMark u [] (none u e) (_, S.no_mark)
made G.question u e = let a = alone Question u e in along IsMark u _ a.whole (_, S.question a.is)
made (G.one_step {i = i} h) u e =
    let a = alone i u e in
    along (IsChain PathSep is_ident) u _ a.whole (_, S.one (as_kind is_ident a.token.kind i a.is h))
made (G.more_steps {i = i} {a = a} h p) u e =
    let f = front u i (PathSep ∷ a) e in
    let g = front f.right PathSep a f.second in
    let m = made p g.right g.second in
    along (IsChain PathSep is_ident) u _ (f.whole ∙ ap (λ v. f.token ∷ v) g.whole)
    (_, S.more (as_kind is_ident f.token.kind i f.is h) g.is m.1)
made G.no_ann u e = along AreAnnotations u [] (none u e) (_, S.none)
made (G.bare_ann {w = w} {a = a} h p) u e =
    let f = front u At (w ∷ a) e in
    let g = front f.right w a f.second in
    let m = made p g.right g.second in
    along AreAnnotations u _ (f.whole ∙ ap (λ v. f.token ∷ v) g.whole)
    (_, S.bare f.is (as_kind is_word_kind g.token.kind w g.is h) m.1)
made (G.valued_ann {w = w} {a = a} h p) u e =
    let f = front u At (w ∷ LParen ∷ StringLit ∷ RParen ∷ a) e in
    let g = front f.right w (LParen ∷ StringLit ∷ RParen ∷ a) f.second in
    let o = front g.right LParen (StringLit ∷ RParen ∷ a) g.second in
    let s = front o.right StringLit (RParen ∷ a) o.second in
    let c = front s.right RParen a s.second in
    let m = made p c.right c.second in
    let whole = f.whole ∙ ap (λ v. f.token ∷ v)
    (g.whole ∙ ap (λ v. g.token ∷ v) (o.whole ∙ ap (λ v. o.token ∷ v) (s.whole ∙ ap (λ v. s.token ∷ v) c.whole))) in
    along AreAnnotations u _ whole (_, S.valued f.is (as_kind is_word_kind g.token.kind w g.is h) o.is s.is c.is m.1)
