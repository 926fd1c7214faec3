-- Tokens that have a syntax are read as it, whatever follows them.
use Rattle.std.proofs.Common.{◌≡◌, ℕ, zero, suc, ◌+◌, ◌-◌, ◌<◌, ◌≤◌, List, [], ◌∷◌, ◌++◌, length, take, Bool, true}
use Rattle.std.proofs.Common.{false, Option, Some, None, refl, sym, ap, ◌∙◌, append_assoc, arith, length-append, inl}
use Rattle.std.proofs.Common.{inr}
use Rattle.std.specs.Prelude.{◌⊎◌, if◌then◌else◌, nat_eq}
use Rattle.std.proofs.lemmas.Bool.{eq-eqb}
use Rattle.cedar_data.specs.Span.{Span}
use Rattle.schema_syntax_grammar.specs.declared.token_kind.TokenKind.{TokenKind}
use Rattle.schema_syntax_grammar.specs.declared.token_kind.TokenKind.TheVariants.{KwNamespace, KwEntity, KwExternal}
use Rattle.schema_syntax_grammar.specs.declared.token_kind.TokenKind.TheVariants.{KwIn, KwType, KwSet, KwAppliesTo}
use Rattle.schema_syntax_grammar.specs.declared.token_kind.TokenKind.TheVariants.{KwAction, KwContext, KwTags, KwEnum}
use Rattle.schema_syntax_grammar.specs.declared.token_kind.TokenKind.TheVariants.{StringLit, At, Comma, Semi, Colon}
use Rattle.schema_syntax_grammar.specs.declared.token_kind.TokenKind.TheVariants.{PathSep, LParen, LBrace, RBrace}
use Rattle.schema_syntax_grammar.specs.declared.token_kind.TokenKind.TheVariants.{LBracket, RBracket, Less, Greater}
use Rattle.schema_syntax_grammar.specs.declared.token_kind.TokenKind.TheVariants.{Equals}
use Rattle.schema_syntax_grammar.specs.Grammar.{is_ident, same_kind, is_name_kind}
use Rattle.schema_syntax_grammar.proofs.Complete.{ident_is_name}
use Rattle.schema_syntax_tokens.specs.declared.token.Token.{Token}
use Rattle.schema_syntax_tokens.specs.TokenLists.{whole_place}
use Rattle.schema_syntax_parser.specs.declared.syntax.PathSyntax.{PathSyntax}
use Rattle.schema_syntax_parser.specs.declared.syntax.AnnotationSyntax.{AnnotationSyntax}
use Rattle.schema_syntax_parser.specs.declared.syntax.TypeSyntax.{TypeSyntax}
use Rattle.schema_syntax_parser.specs.declared.syntax.TypeSyntax.TheVariants.{Path}
use Rattle.schema_syntax_parser.specs.declared.syntax.AttrSyntax.{AttrSyntax}
use Rattle.schema_syntax_parser.specs.declared.syntax.AppSyntax.{AppSyntax}
use Rattle.schema_syntax_parser.specs.declared.syntax.DeclSyntax.{DeclSyntax}
use Rattle.schema_syntax_parser.specs.declared.syntax.DeclaredSyntax.{DeclaredSyntax}
use Rattle.schema_syntax_parser.specs.declared.syntax.ItemSyntax.{ItemSyntax}
use Rattle.schema_syntax_parser.specs.Syntax.{IsChain, one, more, AreSeparated, AreListed, single, listed, AreMany}
use Rattle.schema_syntax_parser.specs.Syntax.{IsPath, path, IsRef, plain, typed, AreParents, no_parents, in_parents}
use Rattle.schema_syntax_parser.specs.Syntax.{AreAnnotations, none, bare, valued, IsMark, no_mark, question, IsType}
use Rattle.schema_syntax_parser.specs.Syntax.{path_type, set_type, record_type, IsRecord, braces, AreAttrs, no_attr}
use Rattle.schema_syntax_parser.specs.Syntax.{last_attr, more_attrs, IsAttr, attr, IsShape, no_shape, bare_shape}
use Rattle.schema_syntax_parser.specs.Syntax.{equals_shape, AreTags, no_tags, some_tags, IsStringToken, string, is_role}
use Rattle.schema_syntax_parser.specs.Syntax.{IsApp, types, context_path, context_record, Applies, no_applies}
use Rattle.schema_syntax_parser.specs.Syntax.{some_applies, IsDecl, entity_decl, enum_decl, external_entity}
use Rattle.schema_syntax_parser.specs.Syntax.{action_decl, external_action, common_decl, IsDeclared, declared, IsItem}
use Rattle.schema_syntax_parser.specs.Syntax.{namespace, outside, IsSyntax}
use Rattle.schema_syntax_parser.specs.Syntax as S
use Rattle.schema_syntax_parser.specs.Reading.{◌>>=◌, Read, Turn, Done, Last, More, after_turn, many_at, all_at}
use Rattle.schema_syntax_parser.specs.Reading.{place_before, link_at, chain_turn, closed_at, separated_turn, path_at}
use Rattle.schema_syntax_parser.specs.Reading.{ref_at, types_at, refs_at, listed_at, parents_at, value_at}
use Rattle.schema_syntax_parser.specs.Reading.{annotation_turn, annotations_at, mark_at, as_type, set_step}
use Rattle.schema_syntax_parser.specs.Reading.{whole_type_step, attr_step, type_at, attrs_at, record_at, shape_at}
use Rattle.schema_syntax_parser.specs.Reading.{tags_at, context_at, app_at, applies_at, string_at, enum_at, standard_at}
use Rattle.schema_syntax_parser.specs.Reading.{entity_body_at, entity_at, external_entity_at, external_action_at}
use Rattle.schema_syntax_parser.specs.Reading.{action_at, common_at, external_at, decl_at, declared_at, decl_turn}
use Rattle.schema_syntax_parser.specs.Reading.{namespace_at, outside_at, item_body_at, item_at, item_turn, items_at}
use Rattle.schema_syntax_parser.proofs.Heads.{begins, Apart, ident_apart, name_apart, begins_head}
use Rattle.schema_syntax_parser.proofs.Heads.{path_head, ref_head, string_head, app_head, attr_head, skip_parents}
use Rattle.schema_syntax_parser.proofs.Heads.{skip_shape, skip_tags, skip_applies, skip_annotations, decl_head}
use Rattle.schema_syntax_parser.proofs.Heads.{declared_length, declared_close, item_length}

-- the place of a part does not depend on what follows it
take_front : {A : Type 0} (u v : List A) → take (length u) (u ++ v) ≡ u
take_front [] v = refl
take_front (x ∷ u) v = ap (λ w. x ∷ w) (take_front u v)

place_back : (u v : List Token) → place_before (u ++ v) v ≡ whole_place u
place_back u v =
    let e : length (u ++ v) - length v ≡ length u = omega (arith, length-append u v) in
    rw (e, take_front u v) refl

down : (n k : ℕ) → k < n → (m : ℕ) × (n ≡ suc m) × (k ≤ m)
down zero k h = absurd (omega (arith, h))
down (suc m) k h = (m, refl, omega (arith, h))

-- one turn, and then the others
many_done : {A : Type 0} (turn : List Token → Option (Turn A)) (n : ℕ) (ts rest : List Token) → 0 < n
    → turn ts ≡ Some (Done rest) → many_at turn n ts ≡ Some ([], rest)
unfolding many_at
many_done turn zero ts rest h e = absurd (omega (arith, h))
many_done turn (suc n) ts rest h e = rw e refl

many_last : {A : Type 0} (turn : List Token → Option (Turn A)) (n : ℕ) (ts rest : List Token) (x : A) → 0 < n
    → turn ts ≡ Some (Last x rest) → many_at turn n ts ≡ Some (x ∷ [], rest)
unfolding many_at
many_last turn zero ts rest x h e = absurd (omega (arith, h))
many_last turn (suc n) ts rest x h e = rw e refl

many_next : {A : Type 0} (turn : List Token → Option (Turn A)) (m : ℕ) (ts mid rest : List Token) (x : A) (xs : List A)
    → turn ts ≡ Some (More x mid) → many_at turn m mid ≡ Some (xs, rest)
    → many_at turn (suc m) ts ≡ Some (x ∷ xs, rest)
unfolding many_at
many_next turn m ts mid rest x xs e f = rw (e, f) refl

-- a chain, which its separator does not follow
link_end : {A : Type 0} (k : TokenKind) (x : A) (v : List Token) → begins k v ≡ false → link_at k x v ≡ Last x v
link_end k x [] e = refl
link_end k x (s ∷ v) e = rw e refl

number_eq : (n : ℕ) → nat_eq n n ≡ true
number_eq n = eq-eqb n n refl

chain_back : {k : TokenKind} {is : TokenKind → Bool} {u names : List Token} → IsChain k is u names
    → (n : ℕ) (v : List Token) → length u < n → begins k v ≡ false
    → many_at (chain_turn k is) n (u ++ v) ≡ Some (names, v)
unfolding chain_turn
chain_back {k} {is} (one {t = t} h) n v l e =
    let turn : chain_turn k is (t ∷ v) ≡ Some (Last t v) = rw h (ap Some (link_end k t v e)) in
    many_last (chain_turn k is) n (t ∷ v) v t (omega (arith, l)) turn
chain_back {k} {is} (more {t = t} {s = s} {u = u} {names = names} h q r) n v l e =
    let d = down n (length (t ∷ s ∷ u)) l in
    let eq : same_kind k s.kind ≡ true = rw q (number_eq _) in
    let turn : chain_turn k is (t ∷ s ∷ (u ++ v)) ≡ Some (More t (u ++ v)) = rw (h, eq) refl in
    rw d.1 (many_next (chain_turn k is) d.0 _ _ _ t names turn (chain_back r d.0 v (omega (arith, d.2)) e))

all_chain : {k : TokenKind} {is : TokenKind → Bool} {u names : List Token} → IsChain k is u names → (v : List Token)
    → begins k v ≡ false → all_at (chain_turn k is) (u ++ v) ≡ Some (names, v)
all_chain {u = u} c v e = chain_back c (length (u ++ v) + 1) v (omega (arith, length-append u v)) e

path_back : {u : List Token} {p : PathSyntax} → IsPath u p → (v : List Token) → begins PathSep v ≡ false
    → path_at (u ++ v) ≡ Some (p, v)
unfolding path_at
path_back (path {u = u} c) v e = rw (all_chain c v e, place_back u v) refl

-- a reference is a chain of names
ref_chain : {u names : List Token} (s q : Token) → IsChain PathSep is_ident u names → s.kind ≡ PathSep
    → q.kind ≡ StringLit → IsChain PathSep is_name_kind (u ++ s ∷ q ∷ []) (names ++ q ∷ [])
ref_chain s q (one {t = t} h) k l = more (ident_is_name t.kind h) k (one (rw l refl))
ref_chain s q (more {t = t} h x r) k l = more (ident_is_name t.kind h) x (ref_chain s q r k l)

ref_back : {u : List Token} {p : PathSyntax} → IsRef u p → (v : List Token) → begins PathSep v ≡ false
    → ref_at (u ++ v) ≡ Some (p, v)
unfolding ref_at
ref_back (plain {t = t} h) v e =
    rw (all_chain {k = PathSep} {is = is_name_kind} (one {t = t} h) v e, place_back (t ∷ []) v) refl
ref_back (typed {u = u} s q c k l) v e = rw (all_chain (ref_chain s q c k l) v e, place_back (u ++ s ∷ q ∷ []) v) refl

-- items before a closing token, which is no comma
separated_item : {A : Type 0} (close : TokenKind) (item : List Token → Read A) (ts : List Token)
    → begins close ts ≡ false → separated_turn close item ts ≡ item ts >>= λ x. closed_at close x.0 x.1
unfolding separated_turn
separated_item close item [] e = refl
separated_item close item (t ∷ ts) e = rw e refl

-- what follows an item: the closing token, or a comma
abbrev pub Ends : TokenKind → List Token → Type 0
Ends close v = (c : Token) × (rest : List Token) × (v ≡ c ∷ rest) × ((c.kind ≡ close) ⊎ (c.kind ≡ Comma))

module _ {A : Type 0} (close : TokenKind) (other : same_kind close Comma ≡ false) (item : List Token → Read A)
    (P : List Token → A → Type 0)
    (back : (u : List Token) (x : A) → P u x → (v : List Token) → Ends close v → item (u ++ v) ≡ Some (x, v))
    (head : (u : List Token) (x : A) → P u x → (v : List Token) → begins close (u ++ v) ≡ false) where
  separated_back : {u : List Token} {xs : List A} → AreSeparated P u xs → (n : ℕ) (c : Token) (v : List Token)
      → length u < n → c.kind ≡ close → many_at (separated_turn close item) n (u ++ c ∷ v) ≡ Some (xs, v)
  unfolding separated_turn
  separated_back S.none n c v l k =
      let eq : same_kind close c.kind ≡ true = rw k (number_eq _) in
      many_done (separated_turn close item) n (c ∷ v) v l (rw eq refl)
  separated_back (S.last {u = u} {x = x} p) n c v l k =
      let eq : same_kind close c.kind ≡ true = rw k (number_eq _) in
      let turn : separated_turn close item (u ++ c ∷ v)
      ≡ Some (Last x v) = separated_item close item _ (head _ _ p (c ∷ v))
      ∙ rw (back _ _ p (c ∷ v) (c, v, refl, inl k), eq) refl in
      many_last (separated_turn close item) n _ v x (omega (arith, l)) turn
  separated_back (S.more {u = u} {v = w} d {x = x} {xs = xs} p q r) n c v l k =
      let m = down n (length (u ++ d ∷ w)) l in
      let rest : List Token = w ++ c ∷ v in
      let not : same_kind close d.kind ≡ false = rw q other in
      let turn : separated_turn close item (u ++ d ∷ rest)
      ≡ Some (More x rest) = separated_item close item _ (head _ _ p (d ∷ rest))
      ∙ rw (back _ _ p (d ∷ rest) (d, rest, refl, inr q), not, q) refl in
      let lt : length w < m.0 = omega (arith, m.2, length-append u (d ∷ w)) in
      rw (m.1, append_assoc u (d ∷ w) (c ∷ v))
      (many_next (separated_turn close item) m.0 _ _ _ x xs turn (separated_back r m.0 c v lt k))

  all_separated : {u : List Token} {xs : List A} → AreSeparated P u xs → (c : Token) (v : List Token) → c.kind ≡ close
      → all_at (separated_turn close item) (u ++ c ∷ v) ≡ Some (xs, v)
  all_separated {u = u} s c v k =
      separated_back s (length (u ++ c ∷ v) + 1) c v (omega (arith, length-append u (c ∷ v))) k

ends_with : (close k : TokenKind) (v : List Token) → Ends close v → same_kind k close ≡ false
    → same_kind k Comma ≡ false → begins k v ≡ false
ends_with close k v (c, rest, e, inl h) a b = rw (e, h) a
ends_with close k v (c, rest, e, inr h) a b = rw (e, h) b

paths_back : {u : List Token} {ps : List PathSyntax} → AreSeparated IsPath u ps → (c : Token) (v : List Token)
    → c.kind ≡ RBracket → all_at (separated_turn RBracket path_at) (u ++ c ∷ v) ≡ Some (ps, v)
paths_back = all_separated RBracket refl path_at IsPath
    (λ u x p v e. path_back p v (ends_with RBracket PathSep v e refl refl))
    (λ u x p v. begins_head RBracket v (path_head p) (path_head p).is.rbracket)

refs_list_back : {u : List Token} {ps : List PathSyntax} → AreSeparated IsRef u ps → (c : Token) (v : List Token)
    → c.kind ≡ RBracket → all_at (separated_turn RBracket ref_at) (u ++ c ∷ v) ≡ Some (ps, v)
refs_list_back = all_separated RBracket refl ref_at IsRef
    (λ u x p v e. ref_back p v (ends_with RBracket PathSep v e refl refl))
    (λ u x p v. begins_head RBracket v (ref_head p) (ref_head p).is.rbracket)

string_back : {u : List Token} {t : Token} → IsStringToken u t → (v : List Token) → string_at (u ++ v) ≡ Some (t, v)
string_back (string h) v = rw h refl

strings_back : {u ts : List Token} → AreSeparated IsStringToken u ts → (c : Token) (v : List Token)
    → c.kind ≡ RBracket → all_at (separated_turn RBracket string_at) (u ++ c ∷ v) ≡ Some (ts, v)
strings_back = all_separated RBracket refl string_at IsStringToken (λ u x s v e. string_back s v)
    (λ u x s v. let h = string_head s in begins_head RBracket v h (rw h.is refl))

-- one item or items in brackets
listed_item : (item : List Token → Read PathSyntax) (ts : List Token) → begins LBracket ts ≡ false
    → listed_at item ts ≡ item ts >>= λ p. Some (p.0 ∷ [], p.1)
listed_item item [] e = refl
listed_item item (t ∷ ts) e = rw e refl

types_back : {u : List Token} {ps : List PathSyntax} → AreListed IsPath u ps → (v : List Token)
    → begins PathSep v ≡ false → types_at (u ++ v) ≡ Some (ps, v)
unfolding types_at
types_back (single {u = u} p) v e =
    listed_item path_at (u ++ v) (begins_head LBracket v (path_head p) (path_head p).is.lbracket)
    ∙ rw (path_back p v e) refl
types_back (listed c {u = u} h s k) v e = rw (h, append_assoc u (c ∷ []) v) (paths_back s c v k)

refs_back : {u : List Token} {ps : List PathSyntax} → AreListed IsRef u ps → (v : List Token)
    → begins PathSep v ≡ false → refs_at (u ++ v) ≡ Some (ps, v)
unfolding refs_at
refs_back (single {u = u} p) v e =
    listed_item ref_at (u ++ v) (begins_head LBracket v (ref_head p) (ref_head p).is.lbracket)
    ∙ rw (ref_back p v e) refl
refs_back (listed c {u = u} h s k) v e = rw (h, append_assoc u (c ∷ []) v) (refs_list_back s c v k)

no_parents_at : (list : List Token → Read (List PathSyntax)) (v : List Token) → begins KwIn v ≡ false
    → parents_at list v ≡ Some ([], v)
no_parents_at list [] e = refl
no_parents_at list (t ∷ v) e = rw e refl

parents_back : {u : List Token} {ps : List PathSyntax} → AreParents IsPath u ps → (v : List Token)
    → begins PathSep v ≡ false → begins KwIn v ≡ false → parents_at types_at (u ++ v) ≡ Some (ps, v)
parents_back no_parents v e f = no_parents_at types_at v f
parents_back (in_parents h l) v e f = rw h (types_back l v e)

action_parents_back : {u : List Token} {ps : List PathSyntax} → AreParents IsRef u ps → (v : List Token)
    → begins PathSep v ≡ false → begins KwIn v ≡ false → parents_at refs_at (u ++ v) ≡ Some (ps, v)
action_parents_back no_parents v e f = no_parents_at refs_at v f
action_parents_back (in_parents h l) v e f = rw h (refs_back l v e)

-- annotations
bare_at : (k : Token) (ts : List Token) → begins LParen ts ≡ false
    → value_at k ts ≡ Some (More (record { key = k; value = None }) ts)
bare_at k [] e = refl
bare_at k (t ∷ ts) e = rw e refl

annotations_end : (v : List Token) → begins At v ≡ false → annotation_turn v ≡ Some (Done v)
unfolding annotation_turn
annotations_end [] e = refl
annotations_end (t ∷ v) e = rw e refl

many_annotations : {u : List Token} {xs : List AnnotationSyntax} → AreAnnotations u xs → (n : ℕ) (v : List Token)
    → length u < n → begins At v ≡ false → begins LParen v ≡ false → many_at annotation_turn n (u ++ v) ≡ Some (xs, v)
unfolding annotation_turn
many_annotations none n v l e f = many_done annotation_turn n v v l (annotations_end v e)
many_annotations (bare {a = a} {k = k} {u = u} h w r) n v l e f =
    let m = down n (length (a ∷ k ∷ u)) l in
    let turn : annotation_turn (a ∷ k ∷ (u ++ v)) ≡ Some (More (record { key = k; value = None }) (u ++ v)) =
    rw (h, w) (bare_at k (u ++ v) (skip_annotations LParen v r refl f)) in
    rw m.1 (many_next annotation_turn m.0 _ _ _ _ _ turn (many_annotations r m.0 v (omega (arith, m.2)) e f))
many_annotations (valued {a = a} {k = k} {o = o} {v = s} {c = c} {u = u} h w p q t r) n v l e f =
    let m = down n (length (a ∷ k ∷ o ∷ s ∷ c ∷ u)) l in
    let turn : annotation_turn (a ∷ k ∷ o ∷ s ∷ c ∷ (u ++ v))
    ≡ Some (More (record { key = k; value = Some s }) (u ++ v)) = rw (h, w, p, q, t) refl in
    rw m.1 (many_next annotation_turn m.0 _ _ _ _ _ turn (many_annotations r m.0 v (omega (arith, m.2)) e f))

annotations_back : {u : List Token} {xs : List AnnotationSyntax} → AreAnnotations u xs → (v : List Token)
    → begins At v ≡ false → begins LParen v ≡ false → annotations_at (u ++ v) ≡ Some (xs, v)
unfolding annotations_at
annotations_back {u = u} r v e f = many_annotations r (length (u ++ v) + 1) v (omega (arith, length-append u v)) e f

-- types
same_either : {A : Type 0} (b : Bool) (x y z : A) → x ≡ z → y ≡ z → (if b then x else y) ≡ z
same_either true x y z e f = e
same_either false x y z e f = f

set_path : (f : List Token → Read TypeSyntax) (t : Token) (ts : List Token) → begins Less ts ≡ false
    → set_step f t ts ≡ as_type (path_at (t ∷ ts))
unfolding set_step
set_path f t [] e = refl
set_path f t (o ∷ ts) e = rw e refl

-- a path begins with an identifier, and `<` does not come next
record PathFront (u : List Token) : Type 0 where
  first : Token
  rest : List Token
  whole : u ≡ first ∷ rest
  is : Apart first.kind
  less : (v : List Token) → begins Less v ≡ false → begins Less (rest ++ v) ≡ false

path_front : {u : List Token} {p : PathSyntax} → IsPath u p → PathFront u
path_front (path (one {t = t} h)) =
    record { first = t; rest = []; whole = refl; is = ident_apart t.kind h; less = λ v e. e }
path_front (path (more {t = t} {s = s} {u = u} h k r)) =
    record { first = t; rest = s ∷ u; whole = refl; is = ident_apart t.kind h; less = λ v e. rw k refl }

type_path : (f : List Token → Read TypeSyntax) (g : List Token → Read (List AttrSyntax)) (t : Token) (ts : List Token)
    → same_kind LBrace t.kind ≡ false → begins Less ts ≡ false
    → whole_type_step f g (t ∷ ts) ≡ as_type (path_at (t ∷ ts))
unfolding whole_type_step
type_path f g t ts b l = rw b (same_either (same_kind KwSet t.kind) _ _ _ (set_path f t ts l) refl)

mark_back : {u : List Token} {m : Bool} → IsMark u m → (c : Token) (v : List Token) → c.kind ≡ Colon
    → mark_at (u ++ c ∷ v) ≡ (m, c ∷ v)
unfolding mark_at
mark_back no_mark c v k = rw k refl
mark_back (question h) c v k = rw h refl

attr_turn_item : (n : ℕ) (ts : List Token) → begins RBrace ts ≡ false
    → separated_turn RBrace (attr_step (type_at n)) ts ≡ attr_step (type_at n) ts >>= λ x. closed_at RBrace x.0 x.1
attr_turn_item n ts e = separated_item RBrace (attr_step (type_at n)) ts e

attrs_turn : (m : ℕ) (ts : List Token)
    → attrs_at (suc m) ts ≡ separated_turn RBrace (attr_step (type_at m)) ts >>= after_turn (attrs_at m)
unfolding attrs_at type_at
attrs_turn m ts = refl

type_turn : (m : ℕ) (ts : List Token) → type_at (suc m) ts ≡ whole_type_step (type_at m) (attrs_at m) ts
unfolding attrs_at type_at
type_turn m ts = refl

mutual
  unfolding whole_type_step set_step attr_step separated_turn

  type_back : {u : List Token} {t : TypeSyntax} → IsType u t → (n : ℕ) (v : List Token) → length u < n
      → begins PathSep v ≡ false → begins Less v ≡ false → type_at n (u ++ v) ≡ Some (t, v)
  type_back (path_type {u = u} {p = p} r) n v l e f =
      let m = down n (length u) l in
      let h = path_front r in
      let w : h.first ∷ (h.rest ++ v) ≡ u ++ v = ap (λ (x : List Token). x ++ v) (sym h.whole) in
      let back : path_at (h.first ∷ (h.rest ++ v)) ≡ Some (p, v) = ap path_at w ∙ path_back r v e in
      let step = type_path (type_at m.0) (attrs_at m.0) h.first (h.rest ++ v) h.is.lbrace (h.less v f) in
      let read : as_type (path_at (h.first ∷ (h.rest ++ v))) ≡ Some (Path p, v) = rw back refl in
      rw m.1 (type_turn m.0 (u ++ v) ∙ ap (whole_type_step (type_at m.0) (attrs_at m.0)) (sym w) ∙ step ∙ read)
  type_back (set_type {s = s} {o = o} c {u = u} {t = t} ks ko r kc) n v l e f =
      let m = down n (length (s ∷ o ∷ (u ++ c ∷ []))) l in
      let lt : length u < m.0 = omega (arith, m.2, length-append u (c ∷ [])) in
      let ih = type_back r m.0 (c ∷ v) lt (rw kc refl) (rw kc refl) in
      let brace : same_kind LBrace s.kind ≡ false = rw ks refl in
      let set : same_kind KwSet s.kind ≡ true = rw ks refl in
      let less : same_kind Less o.kind ≡ true = rw ko refl in
      let greater : same_kind Greater c.kind ≡ true = rw kc refl in
      let place : place_before (s ∷ o ∷ (u ++ c ∷ v)) v
      ≡ whole_place (s ∷ o ∷ (u ++ c ∷ [])) =
      ap (λ (x : List Token). place_before (s ∷ o ∷ x) v) (sym (append_assoc u (c ∷ []) v))
      ∙ place_back (s ∷ o ∷ (u ++ c ∷ [])) v in
      rw (m.1, append_assoc u (c ∷ []) v)
      (type_turn m.0 (s ∷ o ∷ (u ++ c ∷ v)) ∙ rw (brace, set, less, ih, greater, place) refl)
  type_back (record_type (braces {o = o} c {u = u} {xs = xs} ko r kc)) n v l e f =
      let m = down n (length (o ∷ (u ++ c ∷ []))) l in
      let lt : length u < m.0 = omega (arith, m.2, length-append u (c ∷ [])) in
      let opens : same_kind LBrace o.kind ≡ true = rw ko refl in
      let place : place_before (o ∷ (u ++ c ∷ v)) v
      ≡ whole_place (o ∷ (u ++ c ∷ [])) =
      ap (λ (x : List Token). place_before (o ∷ x) v) (sym (append_assoc u (c ∷ []) v))
      ∙ place_back (o ∷ (u ++ c ∷ [])) v in
      rw (m.1, append_assoc u (c ∷ []) v)
      (type_turn m.0 (o ∷ (u ++ c ∷ v)) ∙ rw (opens, attrs_back r m.0 c v lt kc, place) refl)

  attr_back : {u : List Token} {a : AttrSyntax} → IsAttr u a → (n : ℕ) (v : List Token) → length u ≤ n
      → begins PathSep v ≡ false → begins Less v ≡ false → attr_step (type_at n) (u ++ v) ≡ Some (a, v)
  attr_back (attr i c {a = a} {m = m} {u = u} {required = required} {t = t} xs h mk k r) n v l e f =
      let lt : length u < n = omega (arith, l, length-append a (i ∷ (m ++ c ∷ u)), length-append m (c ∷ u)) in
      let whole : (a ++ i ∷ (m ++ c ∷ u)) ++ v ≡ a ++ i ∷ (m ++ c ∷ (u ++ v)) = append_assoc a (i ∷ (m ++ c ∷ u)) v
      ∙ ap (λ (x : List Token). a ++ i ∷ x) (append_assoc m (c ∷ u) v) in
      let name = name_apart i.kind h in
      let anns = annotations_back xs (i ∷ (m ++ c ∷ (u ++ v))) name.at name.lparen in
      let mark = mark_back mk c (u ++ v) k in
      let colon : same_kind Colon c.kind ≡ true = rw k refl in
      let place : place_before (i ∷ (m ++ c ∷ (u ++ v))) v
      ≡ whole_place (i ∷ (m ++ c ∷ u)) =
      ap (λ (x : List Token). place_before (i ∷ x) v) (sym (append_assoc m (c ∷ u) v))
      ∙ place_back (i ∷ (m ++ c ∷ u)) v in
      rw (whole, anns, h, mark, colon, type_back r n v lt e f, place) refl

  attrs_back : {u : List Token} {xs : List AttrSyntax} → AreAttrs u xs → (n : ℕ) (c : Token) (v : List Token)
      → length u < n → c.kind ≡ RBrace → attrs_at n (u ++ c ∷ v) ≡ Some (xs, v)
  attrs_back no_attr n c v l k = let m = down n 0 l in rw m.1 (attrs_turn m.0 (c ∷ v) ∙ rw k refl)
  attrs_back (last_attr {u = u} {a = a} p) n c v l k =
      let m = down n (length u) l in
      let h = attr_head p in
      let item = attr_turn_item m.0 (u ++ c ∷ v) (begins_head RBrace (c ∷ v) h h.is.0) in
      let back = attr_back p m.0 (c ∷ v) m.2 (rw k refl) (rw k refl) in
      rw m.1 (attrs_turn m.0 (u ++ c ∷ v) ∙ rw (item, back, k) refl)
  attrs_back (more_attrs {u = u} {v = w} d {a = a} {xs = xs} p q r) n c v l k =
      let m = down n (length (u ++ d ∷ w)) l in
      let h = attr_head p in
      let rest : List Token = w ++ c ∷ v in
      let item = attr_turn_item m.0 (u ++ d ∷ rest) (begins_head RBrace (d ∷ rest) h h.is.0) in
      let le : length u ≤ m.0 = omega (arith, m.2, length-append u (d ∷ w)) in
      let lt : length w < m.0 = omega (arith, m.2, length-append u (d ∷ w)) in
      let back = attr_back p m.0 (d ∷ rest) le (rw q refl) (rw q refl) in
      let not : same_kind RBrace d.kind ≡ false = rw q refl in
      let comma : same_kind Comma d.kind ≡ true = rw q refl in
      rw (m.1, append_assoc u (d ∷ w) (c ∷ v))
      (attrs_turn m.0 (u ++ d ∷ rest) ∙ rw (item, back, not, comma, attrs_back r m.0 c v lt k) refl)

-- attributes in braces
record_back : {u : List Token} {xs : List AttrSyntax} → IsRecord u xs → (v : List Token)
    → record_at (u ++ v) ≡ Some ((xs, whole_place u), v)
unfolding record_at
record_back (braces {o = o} c {u = u} {xs = xs} ko r kc) v =
    let whole : (o ∷ (u ++ c ∷ [])) ++ v
    ≡ o ∷ (u ++ c ∷ v) = ap (λ (x : List Token). o ∷ x) (append_assoc u (c ∷ []) v) in
    let opens : same_kind LBrace o.kind ≡ true = rw ko refl in
    let lt : length u < length (o ∷ (u ++ c ∷ v)) = omega (arith, length-append u (c ∷ v)) in
    let place : place_before (o ∷ (u ++ c ∷ v)) v
    ≡ whole_place (o ∷ (u ++ c ∷ [])) = ap (λ (x : List Token). place_before x v) (sym whole)
    ∙ place_back (o ∷ (u ++ c ∷ [])) v in
    ap record_at whole ∙ rw (opens, attrs_back r (length (o ∷ (u ++ c ∷ v))) c v lt kc, place) refl

no_shape_at : (v : List Token) → begins Equals v ≡ false → begins LBrace v ≡ false → shape_at v ≡ Some (None, v)
unfolding shape_at
no_shape_at [] e f = refl
no_shape_at (t ∷ v) e f = rw (e, f) refl

shape_back : {u : List Token} {s : Option (List AttrSyntax × Span)} → IsShape u s → (v : List Token)
    → begins Equals v ≡ false → begins LBrace v ≡ false → shape_at (u ++ v) ≡ Some (s, v)
unfolding shape_at
shape_back no_shape v e f = no_shape_at v e f
shape_back (bare_shape (braces {o = o} c {u = u} h r k)) v e f =
    let not : same_kind Equals o.kind ≡ false = rw h refl in
    let brace : same_kind LBrace o.kind ≡ true = rw h refl in
    rw (not, brace, record_back (braces {o = o} c {u = u} h r k) v) refl
shape_back (equals_shape {e = t} h r) v e f =
    let equals : same_kind Equals t.kind ≡ true = rw h refl in
    rw (equals, record_back r v) refl

no_tags_at : (v : List Token) → begins KwTags v ≡ false → tags_at v ≡ Some (None, v)
unfolding tags_at
no_tags_at [] e = refl
no_tags_at (t ∷ v) e = rw e refl

-- a type that one more token follows
follows : (u : List Token) (c : Token) (v : List Token) → length u < length (u ++ c ∷ v)
follows u c v = omega (arith, length-append u (c ∷ v))

tags_back : {u : List Token} {t : Option TypeSyntax} → AreTags u t → (c : Token) (v : List Token) → c.kind ≡ Semi
    → tags_at (u ++ c ∷ v) ≡ Some (t, c ∷ v)
unfolding tags_at
tags_back no_tags c v k = no_tags_at (c ∷ v) (rw k refl)
tags_back (some_tags {u = u} h r) c v k =
    rw (h, type_back r (length (u ++ c ∷ v)) (c ∷ v) (follows u c v) (rw k refl) (rw k refl)) refl

-- the members of an `appliesTo` block
context_record_back : {u : List Token} {xs : List AttrSyntax} → IsRecord u xs → (w c : Token) (v : List Token)
    → context_at (w ∷ c ∷ (u ++ v)) (u ++ v)
    ≡ Some (AppSyntax.ContextRecord xs (whole_place u) (whole_place (w ∷ c ∷ u)), v)
unfolding context_at
context_record_back (braces {o = o} d {u = u} h r k) w c v =
    let brace : same_kind LBrace o.kind ≡ true = rw h refl in
    rw (brace, record_back (braces {o = o} d {u = u} h r k) v, place_back (w ∷ c ∷ o ∷ (u ++ d ∷ [])) v) refl

context_path_at : (whole ts : List Token) → begins LBrace ts ≡ false
    → context_at whole ts ≡ path_at ts >>= λ p. Some (AppSyntax.ContextPath p.0 (place_before whole p.1), p.1)
unfolding context_at path_at chain_turn many_at
context_path_at whole [] e = refl
context_path_at whole (t ∷ ts) e = rw e refl

context_path_back : {u : List Token} {p : PathSyntax} → IsPath u p → (w c : Token) (v : List Token)
    → begins PathSep v ≡ false
    → context_at (w ∷ c ∷ (u ++ v)) (u ++ v) ≡ Some (AppSyntax.ContextPath p (whole_place (w ∷ c ∷ u)), v)
context_path_back {u} r w c v e =
    context_path_at (w ∷ c ∷ (u ++ v)) (u ++ v) (begins_head LBrace v (path_head r) (path_head r).is.lbrace)
    ∙ rw (path_back r v e, place_back (w ∷ c ∷ u) v) refl

app_back : {u : List Token} {a : AppSyntax} → IsApp u a → (v : List Token) → begins PathSep v ≡ false
    → app_at (u ++ v) ≡ Some (a, v)
unfolding app_at
app_back (types {w = w} {c = c} {u = u} h k l) v e =
    let colon : same_kind Colon c.kind ≡ true = rw k refl in
    rw (colon, h, types_back l v e, place_back (w ∷ c ∷ u) v) refl
app_back (context_path {w = w} {c = c} h k p) v e =
    let colon : same_kind Colon c.kind ≡ true = rw k refl in
    let role : is_role w.kind ≡ false = rw h refl in
    let context : same_kind KwContext w.kind ≡ true = rw h refl in
    rw (colon, role, context) (context_path_back p w c v e)
app_back (context_record {w = w} {c = c} h k r) v e =
    let colon : same_kind Colon c.kind ≡ true = rw k refl in
    let role : is_role w.kind ≡ false = rw h refl in
    let context : same_kind KwContext w.kind ≡ true = rw h refl in
    rw (colon, role, context) (context_record_back r w c v)

apps_back : {u : List Token} {xs : List AppSyntax} → AreSeparated IsApp u xs → (c : Token) (v : List Token)
    → c.kind ≡ RBrace → all_at (separated_turn RBrace app_at) (u ++ c ∷ v) ≡ Some (xs, v)
apps_back = all_separated RBrace refl app_at IsApp
    (λ u x a v e. app_back a v (ends_with RBrace PathSep v e refl refl))
    (λ u x a v. begins_head RBrace v (app_head a) (app_head a).is.0)

no_applies_at : (v : List Token) → begins KwAppliesTo v ≡ false → applies_at v ≡ Some (None, v)
unfolding applies_at
no_applies_at [] e = refl
no_applies_at (t ∷ v) e = rw e refl

-- a list between two tokens, and what follows
closed_whole : (o : Token) (u : List Token) (c : Token) (v : List Token) → (o ∷ (u ++ c ∷ [])) ++ v ≡ o ∷ (u ++ c ∷ v)
closed_whole o u c v = ap (λ (x : List Token). o ∷ x) (append_assoc u (c ∷ []) v)

closed_place : (o : Token) (u : List Token) (c : Token) (v : List Token)
    → place_before (o ∷ (u ++ c ∷ v)) v ≡ whole_place (o ∷ (u ++ c ∷ []))
closed_place o u c v = ap (λ (x : List Token). place_before x v) (sym (closed_whole o u c v))
    ∙ place_back (o ∷ (u ++ c ∷ [])) v

applies_back : {u : List Token} {s : Option (List AppSyntax × Span)} → Applies u s → (v : List Token)
    → begins KwAppliesTo v ≡ false → applies_at (u ++ v) ≡ Some (s, v)
unfolding applies_at
applies_back no_applies v e = no_applies_at v e
applies_back (some_applies {w = w} {o = o} c {u = u} h ko s k) v e =
    let word : same_kind KwAppliesTo w.kind ≡ true = rw h refl in
    let brace : same_kind LBrace o.kind ≡ true = rw ko refl in
    ap (λ (x : List Token). applies_at (w ∷ x)) (closed_whole o u c v)
    ∙ rw (word, brace, apps_back s c v k, closed_place o u c v) refl

-- declarations
no_body : (names ts : List Token) → begins KwEnum ts ≡ false → entity_body_at names ts ≡ standard_at names ts
no_body names [] e = refl
no_body names (t ∷ ts) e = rw e refl

-- what may stand behind the names of an entity type, up to its end
standard_back : (names : List Token) {p s t : List Token} {parents : List PathSyntax}
    {shape : Option (List AttrSyntax × Span)} {tags : Option TypeSyntax} (z : Token) (v : List Token)
    → AreParents IsPath p parents → IsShape s shape → AreTags t tags → z.kind ≡ Semi
    → standard_at names (p ++ (s ++ (t ++ z ∷ v))) ≡ Some (DeclSyntax.Entity names parents shape tags, v)
unfolding standard_at
standard_back names {p = p} {s = s} {t = t} z v ps h ts k =
    let after_shape : (j : TokenKind) → same_kind j KwTags ≡ false → same_kind j Semi ≡ false
    → begins j (t ++ z ∷ v) ≡ false = λ j a b. skip_tags j (z ∷ v) ts a (rw k b) in
    let after_parents : (j : TokenKind) → same_kind j Equals ≡ false → same_kind j LBrace ≡ false
    → same_kind j KwTags ≡ false → same_kind j Semi ≡ false
    → begins j (s ++ (t ++ z ∷ v)) ≡ false = λ j a b c d. skip_shape j (t ++ z ∷ v) h a b (after_shape j c d) in
    let one = parents_back ps (s ++ (t ++ z ∷ v)) (after_parents PathSep refl refl refl refl)
    (after_parents KwIn refl refl refl refl) in
    let two = shape_back h (t ++ z ∷ v) (after_shape Equals refl refl) (after_shape LBrace refl refl) in
    let three = tags_back ts z v k in
    let semi : same_kind Semi z.kind ≡ true = rw k refl in
    rw (one, two, three, semi) refl

behind_names : {p s t : List Token} {parents : List PathSyntax} {shape : Option (List AttrSyntax × Span)}
    {tags : Option TypeSyntax} (j : TokenKind) (z : Token) (v : List Token)
    → AreParents IsPath p parents → IsShape s shape → AreTags t tags → z.kind ≡ Semi
    → same_kind j KwIn ≡ false → same_kind j Equals ≡ false → same_kind j LBrace ≡ false → same_kind j KwTags ≡ false
    → same_kind j Semi ≡ false → begins j (p ++ (s ++ (t ++ z ∷ v))) ≡ false
behind_names {s = s} {t = t} j z v ps h ts k a b c d e =
    skip_parents j (s ++ (t ++ z ∷ v)) ps a (skip_shape j (t ++ z ∷ v) h b c (skip_tags j (z ∷ v) ts d (rw k e)))

-- four lists and what follows them
four : (a b c d v : List Token) → (a ++ (b ++ (c ++ d))) ++ v ≡ a ++ (b ++ (c ++ (d ++ v)))
four a b c d v = append_assoc a (b ++ (c ++ d)) v
    ∙ ap (λ (x : List Token). a ++ x) (append_assoc b (c ++ d) v ∙ ap (λ (x : List Token). b ++ x) (append_assoc c d v))

five : (a b c d e v : List Token) → (a ++ (b ++ (c ++ (d ++ e)))) ++ v ≡ a ++ (b ++ (c ++ (d ++ (e ++ v))))
five a b c d e v = append_assoc a (b ++ (c ++ (d ++ e))) v ∙ ap (λ (x : List Token). a ++ x) (four b c d e v)

entity_back : {i p s t names : List Token} {parents : List PathSyntax} {shape : Option (List AttrSyntax × Span)}
    {tags : Option TypeSyntax} (z : Token) (v : List Token)
    → IsChain Comma is_ident i names → AreParents IsPath p parents → IsShape s shape → AreTags t tags → z.kind ≡ Semi
    → entity_at (i ++ (p ++ (s ++ (t ++ z ∷ v)))) ≡ Some (DeclSyntax.Entity names parents shape tags, v)
unfolding entity_at
entity_back {p = p} {s = s} {t = t} {names = names} z v is ps h ts k =
    let body : List Token = p ++ (s ++ (t ++ z ∷ v)) in
    let read = all_chain is body (behind_names Comma z v ps h ts k refl refl refl refl refl) in
    let rest = no_body names body (behind_names KwEnum z v ps h ts k refl refl refl refl refl)
    ∙ standard_back names z v ps h ts k in
    rw (read, rest) refl

enum_back : {i s names choices : List Token} (n o c z : Token) (v : List Token) → IsChain Comma is_ident i names
    → n.kind ≡ KwEnum → o.kind ≡ LBracket → AreSeparated IsStringToken s choices → c.kind ≡ RBracket → z.kind ≡ Semi
    → entity_at (i ++ n ∷ o ∷ (s ++ c ∷ z ∷ v))
    ≡ Some (DeclSyntax.Enum names choices (whole_place (o ∷ (s ++ c ∷ []))), v)
unfolding entity_at enum_at
enum_back {s = s} n o c z v is kn ko ss kc kz =
    let read = all_chain is (n ∷ o ∷ (s ++ c ∷ z ∷ v)) (rw kn refl) in
    let word : same_kind KwEnum n.kind ≡ true = rw kn refl in
    let opens : same_kind LBracket o.kind ≡ true = rw ko refl in
    let semi : same_kind Semi z.kind ≡ true = rw kz refl in
    rw (read, word, opens, strings_back ss c (z ∷ v) kc, semi, closed_place o s c (z ∷ v)) refl

external_entity_back : {i p names : List Token} {parents : List PathSyntax} (z : Token) (v : List Token)
    → IsChain Comma is_ident i names → AreParents IsPath p parents → z.kind ≡ Semi
    → external_entity_at (i ++ (p ++ z ∷ v)) ≡ Some (DeclSyntax.ExternalEntity names parents, v)
unfolding external_entity_at
external_entity_back {p = p} z v is ps k =
    let read = all_chain is (p ++ z ∷ v) (skip_parents Comma (z ∷ v) ps refl (rw k refl)) in
    let semi : same_kind Semi z.kind ≡ true = rw k refl in
    rw (read, parents_back ps (z ∷ v) (rw k refl) (rw k refl), semi) refl

external_action_back : {n p names : List Token} {parents : List PathSyntax} (z : Token) (v : List Token)
    → IsChain Comma is_name_kind n names → AreParents IsRef p parents → z.kind ≡ Semi
    → external_action_at (n ++ (p ++ z ∷ v)) ≡ Some (DeclSyntax.ExternalAction names parents, v)
unfolding external_action_at
external_action_back {p = p} z v is ps k =
    let read = all_chain is (p ++ z ∷ v) (skip_parents Comma (z ∷ v) ps refl (rw k refl)) in
    let semi : same_kind Semi z.kind ≡ true = rw k refl in
    rw (read, action_parents_back ps (z ∷ v) (rw k refl) (rw k refl), semi) refl

action_back : {n p s names : List Token} {parents : List PathSyntax} {applies : Option (List AppSyntax × Span)}
    (z : Token) (v : List Token)
    → IsChain Comma is_name_kind n names → AreParents IsRef p parents → Applies s applies → z.kind ≡ Semi
    → action_at (n ++ (p ++ (s ++ z ∷ v))) ≡ Some (DeclSyntax.Action names parents applies, v)
unfolding action_at
action_back {p = p} {s = s} z v is ps a k =
    let after : (j : TokenKind) → same_kind j KwAppliesTo ≡ false → same_kind j Semi ≡ false
    → begins j (s ++ z ∷ v) ≡ false = λ j x y. skip_applies j (z ∷ v) a x (rw k y) in
    let read = all_chain is (p ++ (s ++ z ∷ v)) (skip_parents Comma (s ++ z ∷ v) ps refl (after Comma refl refl)) in
    let semi : same_kind Semi z.kind ≡ true = rw k refl in
    rw (
      read,
      action_parents_back ps (s ++ z ∷ v) (after PathSep refl refl) (after KwIn refl refl),
      applies_back a
          (z ∷ v) (rw k refl),
      semi,
    ) refl

common_back : {u : List Token} {t : TypeSyntax} (n e z : Token) (v : List Token) → is_ident n.kind ≡ true
    → e.kind ≡ Equals → IsType u t → z.kind ≡ Semi
    → common_at (n ∷ e ∷ (u ++ z ∷ v)) ≡ Some (DeclSyntax.Common n t, v)
unfolding common_at
common_back {u = u} n e z v h k t s =
    let equals : same_kind Equals e.kind ≡ true = rw k refl in
    let semi : same_kind Semi z.kind ≡ true = rw s refl in
    rw (h, equals, type_back t (length (u ++ z ∷ v)) (z ∷ v) (follows u z v) (rw s refl) (rw s refl), semi) refl

decl_back : {u : List Token} {d : DeclSyntax} → IsDecl u d → (v : List Token) → decl_at (u ++ v) ≡ Some (d, v)
unfolding decl_at external_at
decl_back (entity_decl {e = e} z {i = i} {p = p} {s = s} {t = t} h is ps sh ts k) v =
    let word : same_kind KwEntity e.kind ≡ true = rw h refl in
    ap (λ (x : List Token). decl_at (e ∷ x)) (five i p s t (z ∷ []) v) ∙ rw word (entity_back z v is ps sh ts k)
decl_back (enum_decl {e = e} n o c z {i = i} {s = s} h is kn ko ss kc kz) v =
    let word : same_kind KwEntity e.kind ≡ true = rw h refl in
    let whole : (i ++ n ∷ o ∷ (s ++ c ∷ z ∷ [])) ++ v ≡ i
    ++ n ∷ o ∷ (s ++ c ∷ z ∷ v) = append_assoc i (n ∷ o ∷ (s ++ c ∷ z ∷ [])) v
    ∙ ap (λ (x : List Token). i ++ n ∷ o ∷ x) (append_assoc s (c ∷ z ∷ []) v) in
    ap (λ (x : List Token). decl_at (e ∷ x)) whole ∙ rw word (enum_back n o c z v is kn ko ss kc kz)
decl_back (external_entity {x = x} {e = e} z {i = i} {p = p} h he is ps k) v =
    let not : same_kind KwEntity x.kind ≡ false = rw h refl in
    let word : same_kind KwExternal x.kind ≡ true = rw h refl in
    let next : same_kind KwEntity e.kind ≡ true = rw he refl in
    let whole : (i ++ (p ++ z ∷ [])) ++ v ≡ i ++ (p ++ z ∷ v) = append_assoc i (p ++ z ∷ []) v
    ∙ ap (λ (y : List Token). i ++ y) (append_assoc p (z ∷ []) v) in
    ap (λ (y : List Token). decl_at (x ∷ e ∷ y)) whole ∙ rw (not, word, next) (external_entity_back z v is ps k)
decl_back (action_decl {a = a} z {n = n} {r = r} {s = s} h is ps ap' k) v =
    let not : same_kind KwEntity a.kind ≡ false = rw h refl in
    let nor : same_kind KwExternal a.kind ≡ false = rw h refl in
    let word : same_kind KwAction a.kind ≡ true = rw h refl in
    ap (λ (x : List Token). decl_at (a ∷ x)) (four n r s (z ∷ []) v) ∙ rw (not, nor, word) (action_back z v is ps ap' k)
decl_back (external_action {x = x} {a = a} z {n = n} {r = r} h ha is ps k) v =
    let not : same_kind KwEntity x.kind ≡ false = rw h refl in
    let word : same_kind KwExternal x.kind ≡ true = rw h refl in
    let nor : same_kind KwEntity a.kind ≡ false = rw ha refl in
    let next : same_kind KwAction a.kind ≡ true = rw ha refl in
    let whole : (n ++ (r ++ z ∷ [])) ++ v ≡ n ++ (r ++ z ∷ v) = append_assoc n (r ++ z ∷ []) v
    ∙ ap (λ (y : List Token). n ++ y) (append_assoc r (z ∷ []) v) in
    ap (λ (y : List Token). decl_at (x ∷ a ∷ y)) whole ∙ rw (not, word, nor, next) (external_action_back z v is ps k)
decl_back (common_decl {w = w} {n = n} {e = e} z {u = u} h hn he t k) v =
    let not : same_kind KwEntity w.kind ≡ false = rw h refl in
    let nor : same_kind KwExternal w.kind ≡ false = rw h refl in
    let neither : same_kind KwAction w.kind ≡ false = rw h refl in
    let word : same_kind KwType w.kind ≡ true = rw h refl in
    ap (λ (x : List Token). decl_at (w ∷ n ∷ e ∷ x)) (append_assoc u (z ∷ []) v)
    ∙ rw (not, nor, neither, word) (common_back n e z v hn he t k)

declared_back : {u : List Token} {d : DeclaredSyntax} → IsDeclared u d → (v : List Token)
    → declared_at (u ++ v) ≡ Some (d, v)
unfolding declared_at
declared_back (declared {a = a} {u = u} xs d) v =
    let h = decl_head d in
    let anns = annotations_back xs (u ++ v) (begins_head At v h h.is.0) (begins_head LParen v h h.is.1) in
    ap declared_at (append_assoc a u v) ∙ rw (anns, decl_back d v, place_back u v) refl

decl_turn_item : (ts : List Token) → begins RBrace ts ≡ false
    → decl_turn ts ≡ declared_at ts >>= λ d. Some (More d.0 d.1)
unfolding decl_turn
decl_turn_item [] e = refl
decl_turn_item (t ∷ ts) e = rw e refl

decls_back : {u : List Token} {ds : List DeclaredSyntax} → AreMany IsDeclared u ds
    → (n : ℕ) (c : Token) (v : List Token) → length u < n → c.kind ≡ RBrace
    → many_at decl_turn n (u ++ c ∷ v) ≡ Some (ds, v)
unfolding decl_turn
decls_back S.none n c v l k =
    let eq : same_kind RBrace c.kind ≡ true = rw k refl in
    many_done decl_turn n (c ∷ v) v l (rw eq refl)
decls_back (S.more {u = u} {v = w} {x = x} {xs = xs} d r) n c v l k =
    let m = down n (length (u ++ w)) l in
    let rest : List Token = w ++ c ∷ v in
    let turn : decl_turn (u ++ rest) ≡ Some (More x rest) = decl_turn_item (u ++ rest) (declared_close rest d)
    ∙ rw (declared_back d rest) refl in
    let lt : length w < m.0 = omega (arith, m.2, length-append u w, declared_length d) in
    rw (m.1, append_assoc u w (c ∷ v)) (many_next decl_turn m.0 _ _ _ x xs turn (decls_back r m.0 c v lt k))

-- items
outside_back : {u : List Token} {d : DeclSyntax} (xs : List AnnotationSyntax) → IsDecl u d → (v : List Token)
    → item_body_at xs (u ++ v) ≡ Some (ItemSyntax.Decl (record { annotations = xs; decl = d; loc = whole_place u }), v)
unfolding outside_at
outside_back {u} xs d v = not_namespace xs (u ++ v) (begins_head KwNamespace v (decl_head d) (decl_head d).is.3)
    ∙ rw (decl_back d v, place_back u v) refl
  where
    not_namespace : (xs : List AnnotationSyntax) (ts : List Token) → begins KwNamespace ts ≡ false
        → item_body_at xs ts ≡ outside_at xs ts
    not_namespace xs [] e = refl
    not_namespace xs (t ∷ ts) e = rw e refl

item_back : {u : List Token} {i : ItemSyntax} → IsItem u i → (v : List Token) → item_at (u ++ v) ≡ Some (i, v)
unfolding item_at namespace_at
item_back (outside (declared {a = a} {u = u} xs d)) v =
    let h = decl_head d in
    let anns = annotations_back xs (u ++ v) (begins_head At v h h.is.0) (begins_head LParen v h h.is.1) in
    ap item_at (append_assoc a u v) ∙ rw (anns, outside_back _ d v) refl
item_back (namespace n o c {a = a} {p = p} {u = u} xs hn ps ho ds hc) v =
    let inner : (n ∷ (p ++ o ∷ (u ++ c ∷ []))) ++ v
    ≡ n ∷ (p ++ o ∷ (u ++ c ∷ v)) =
    ap (λ (x : List Token). n ∷ x)
    (append_assoc p (o ∷ (u ++ c ∷ [])) v ∙ ap (λ (x : List Token). p ++ o ∷ x) (append_assoc u (c ∷ []) v)) in
    let whole : (a ++ n ∷ (p ++ o ∷ (u ++ c ∷ []))) ++ v ≡ a
    ++ n ∷ (p ++ o ∷ (u ++ c ∷ v)) = append_assoc a (n ∷ (p ++ o ∷ (u ++ c ∷ []))) v
    ∙ ap (λ (x : List Token). a ++ x) inner in
    let anns = annotations_back xs (n ∷ (p ++ o ∷ (u ++ c ∷ v))) (rw hn refl) (rw hn refl) in
    let word : same_kind KwNamespace n.kind ≡ true = rw hn refl in
    let name = path_back ps (o ∷ (u ++ c ∷ v)) (rw ho refl) in
    let opens : same_kind LBrace o.kind ≡ true = rw ho refl in
    let decls = decls_back ds (length (u ++ c ∷ v) + 1) c v (omega (arith, length-append u (c ∷ v))) hc in
    let place : place_before (n ∷ (p ++ o ∷ (u ++ c ∷ v))) v
    ≡ whole_place (n ∷ (p ++ o ∷ (u ++ c ∷ []))) = ap (λ (x : List Token). place_before x v) (sym inner)
    ∙ place_back (n ∷ (p ++ o ∷ (u ++ c ∷ []))) v in
    ap item_at whole ∙ rw (anns, word, name, opens, decls, place) refl

-- the first item of tokens that have a syntax, as it is read
pub record FirstRead (tokens : List Token) : Type 0 where
  pub item : ItemSyntax
  pub front : List Token
  pub rest : List Token
  pub others : List ItemSyntax
  pub split : tokens ≡ front ++ rest
  pub is : IsItem front item
  pub left : IsSyntax rest others
  pub read : item_at tokens ≡ Some (item, rest)

pub first_read : {u : List Token} {xs : List ItemSyntax} → IsSyntax u xs → 0 < length u → FirstRead u
first_read S.none h = absurd (omega (arith, h))
first_read (S.more {u = u} {v = w} {x = x} {xs = xs} i r) h = record {
  item = x;
  front = u;
  rest = w;
  others = xs;
  split = refl;
  is = i;
  left = r;
  read = item_back i w;
}

item_turn_item : (ts : List Token) → 0 < length ts → item_turn ts ≡ item_at ts >>= λ i. Some (More i.0 i.1)
unfolding item_turn
item_turn_item [] h = absurd (omega (arith, h))
item_turn_item (t ∷ ts) h = refl

many_items : {u : List Token} {xs : List ItemSyntax} → IsSyntax u xs → (n : ℕ) → length u < n
    → many_at item_turn n u ≡ Some (xs, [])
unfolding item_turn
many_items S.none n l = many_done item_turn n [] [] l refl
many_items (S.more {u = u} {v = w} {x = x} {xs = xs} i r) n l =
    let m = down n (length (u ++ w)) l in
    let turn : item_turn (u ++ w) ≡ Some (More x w) = item_turn_item (u ++ w)
    (omega (arith, length-append u w, item_length i)) ∙ rw (item_back i w) refl in
    let lt : length w < m.0 = omega (arith, m.2, length-append u w, item_length i) in
    rw m.1 (many_next item_turn m.0 _ _ _ x xs turn (many_items r m.0 lt))

pub items_back : (u : List Token) (xs : List ItemSyntax) → IsSyntax u xs → items_at u ≡ Some (xs, [])
unfolding items_at
items_back u xs r = many_items r (length u + 1) (omega arith)

-- a list of tokens has one syntax
pub one_syntax : (u : List Token) (xs ys : List ItemSyntax) → IsSyntax u xs → IsSyntax u ys → xs ≡ ys
one_syntax u xs ys p q = ap (λ (o : Read (List ItemSyntax)). elim o [ None ↦ xs | Some r ↦ r.0 ])
    (sym (items_back u xs p) ∙ items_back u ys q)
