-- What the trees of declarations say, their lexemes spell.
use Rattle.std.proofs.Common.{◌≡◌, ℕ, true, List, [], ◌∷◌, ◌++◌, Option, Some, None, refl, sym, ap, ◌∙◌, subst}
use Rattle.std.specs.List.{All, AllZip, flat_map}
use Rattle.std.proofs.lemmas.List.Elements.{All-head, All-tail}
use Rattle.std.proofs.lemmas.List.{same_from_push}
use Rattle.cedar_data.specs.Span.{Span}
use Rattle.cedar_data.specs.declared.node.Node.{Node}
use Rattle.cedar_data.proofs.Lists.{All-front, All-back, nothing_is}
use Rattle.schema_syntax_grammar.specs.declared.token_kind.TokenKind.{TokenKind}
use Rattle.schema_syntax_grammar.specs.declared.token_kind.TokenKind.TheVariants.{KwAppliesTo, KwEntity, KwEnum, Comma}
use Rattle.schema_syntax_grammar.specs.declared.token_kind.TokenKind.TheVariants.{Semi, LBrace, RBrace, LBracket}
use Rattle.schema_syntax_grammar.specs.declared.token_kind.TokenKind.TheVariants.{RBracket, PathSep, StringLit}
use Rattle.schema_syntax_grammar.specs.Grammar.{is_ident}
use Rattle.schema_syntax_grammar.specs.Grammar.{is_name_kind}
use Rattle.schema_syntax_tokens.specs.declared.token.Token.{Token}
use Rattle.schema_syntax_tokens.specs.Laid.{Lexeme, IsSpelled, Spells}
use Rattle.schema_syntax_tokens.specs.TokenLists.{whole_place}
use Rattle.cedar_identifiers.specs.Names.{texts_of}
use Rattle.cedar_identifiers.specs.declared.id.Id.{Id}
use Rattle.schema_syntax_parser.specs.declared.syntax.PathSyntax.{PathSyntax}
use Rattle.schema_syntax_parser.specs.declared.syntax.AttrSyntax.{AttrSyntax}
use Rattle.schema_syntax_parser.specs.declared.syntax.TypeSyntax.{TypeSyntax}
use Rattle.schema_syntax_parser.specs.declared.syntax.AppSyntax.{AppSyntax}
use Rattle.schema_syntax_parser.specs.declared.syntax.DeclSyntax.{DeclSyntax}
use Rattle.schema_syntax_parser.specs.declared.syntax.DeclaredSyntax.{DeclaredSyntax}
use Rattle.schema_syntax_parser.specs.declared.syntax.ItemSyntax.{ItemSyntax}
use Rattle.schema_syntax_parser.specs.Syntax.{IsChain, IsPath, IsRef, AreSeparated, AreListed, AreMany, AreParents}
use Rattle.schema_syntax_parser.specs.Syntax.{IsShape, AreTags, IsApp, Applies, IsDecl, IsDeclared, IsItem, IsSyntax}
use Rattle.schema_syntax_parser.specs.Syntax.{is_role}
use Rattle.schema_syntax_parser.specs.Syntax.{IsStringToken}
use Rattle.schema_syntax_parser.specs.Syntax as grammar
use Rattle.schema_syntax_tree.specs.declared.path.Path.{Path}
use Rattle.schema_syntax_tree.specs.declared.annotated.Annotated.{Annotated}
use Rattle.schema_syntax_tree.specs.declared.types.AttrDecl.{AttrDecl}
use Rattle.schema_syntax_tree.specs.declared.types.Type.{«Type»}
use Rattle.schema_syntax_tree.specs.declared.qual_name.QualName.{QualName}
use Rattle.schema_syntax_tree.specs.declared.app_decl.AppDecl.{AppDecl}
use Rattle.schema_syntax_tree.specs.declared.declaration.Declaration.{Declaration}
use Rattle.schema_syntax_tree.specs.declared.declaration.Declaration.TheVariants as declaration
use Rattle.schema_syntax_tree.specs.declared.entity_decl.EntityDecl.TheVariants as entity_decl
use Rattle.schema_syntax_tree.specs.declared.action_decl.ActionDecl.TheVariants as action_decl
use Rattle.schema_syntax_tree.specs.declared.namespace.Namespace.{Namespace}
use Rattle.schema_syntax_reader.specs.Sites.{Site, empty, annotations, site_of_kind, name_sites, names_sites}
use Rattle.schema_syntax_reader.specs.Sites.{path_sites, paths_sites, sites_of_type, shape_sites, tags_sites, app_sites}
use Rattle.schema_syntax_reader.specs.Sites.{apps_sites, choices_sites, applies_sites, decl_sites, declared_sites}
use Rattle.schema_syntax_reader.specs.Sites.{item_sites}
use Rattle.schema_syntax_reader.specs.UserFaults.{empty_list}
use Rattle.schema_syntax_reader.specs.Trees as tree
use Rattle.laws_written.specs.Written.{no_more, WrittenRef, WrittenMember, types, context_path, context_record}
use Rattle.laws_written.specs.Written.{entity, enum, external_entity, action, external_action, common}
use Rattle.laws_written.specs.Written.{WrittenDeclared, namespace, outside}
use Rattle.laws_written.specs.Spellings.{IsChainOf, one, more, AreNamesOf, one_name, more_names, SpellsPath}
use Rattle.laws_written.specs.Spellings.{AreSeparatedOf, no_item, last_item, more_items, AreListedOf, single_item}
use Rattle.laws_written.specs.Spellings.{listed_items, AreManyOf, no_more_items, item_first, AreParentsOf, no_parent}
use Rattle.laws_written.specs.Spellings.{some_parents, IsStringOf, a_string, SpellsRef, plain_ref, typed_ref}
use Rattle.laws_written.specs.Spellings.{SpellsShape, no_shape, bare_shape, equals_shape, SpellTags, no_tags}
use Rattle.laws_written.specs.Spellings.{some_tags, IsMemberOf, types_of, path_context, record_context}
use Rattle.laws_written.specs.Spellings.{SpellsApplies, no_applies, some_applies, SpellsDecl, entity_of, enum_of}
use Rattle.laws_written.specs.Spellings.{external_entity_of, action_of, external_action_of, common_of}
use Rattle.laws_written.specs.Spellings.{SpellsDeclared, declared_of, SpellsItem, namespace_of, outside_of}
use Rattle.laws_written.specs.Spellings.{SpellsSchema}
use Rattle.laws_written.specs.Shows.{ShowsAttributes, shows_none, SaysPath, SaysId, SaysName, SaysChoice}
use Rattle.laws_written.specs.Shows.{SaysOptionalPath, SaysRef, SaysOptional, SaysTags, SaysShape, SaysMember}
use Rattle.laws_written.specs.Shows.{SaysApplies, SaysDecl, SaysDeclared, SaysItem}
use Rattle.laws_written.specs.Reads.{IsFaultless}
use Rattle.laws_written.specs.Said.{Said, SaidAll}
use Rattle.laws_written.proofs.Split.{unsplit, unbetween, unclosed, no_lexeme}
use Rattle.laws_written.proofs.SaidNotes.{back_notes}
use Rattle.laws_written.proofs.SaidTypes.{ident_back, back_path, name_back, back_type}
use Rattle.laws_written.proofs.SaidTypes.{back_record}

abbrev HasOne : {A : Type 0} → List A → Type 0
HasOne [] = ⊥
HasOne (x ∷ xs) = Unit {0}

module _ (source : List ℕ) where
  abbrev Faultless : List Site → Type 0
  Faultless sites = All (IsFaultless source) sites

  module _ {S T A : Type 0} (P : List Lexeme → A → Type 0) (Q : List Token → S → Type 0) (Is : S → T → Type 0)
      (Says : T → A → Type 0) (sites : S → List Site)
      (back : (ts : List Token) (s : S) (n : T) → Q ts s → Is s n → Faultless (sites s) → (u : List Lexeme)
      → Spells source ts u → Said Says P n u) where
    back_separated : {ts : List Token} {ss : List S} → AreSeparated Q ts ss → (ns : List T) → AllZip Is ss ns
        → Faultless (flat_map sites ss) → (u : List Lexeme) → Spells source ts u
        → SaidAll Says (AreSeparatedOf P u) ns
    back_separated grammar.none [] z f u s =
        record {
          written = [];
          spell = subst (λ l. AreSeparatedOf P l []) (sym (no_lexeme source u s)) no_item;
          says = tt;
        }
    back_separated grammar.none (n ∷ ns) z f u s = absurd z
    back_separated (grammar.last q) [] z f u s = absurd z
    back_separated (grammar.last q) (n ∷ m ∷ ns) z f u s = absurd z.1
    back_separated (grammar.last {u = ts} {x = x} q) (n ∷ []) z f u s =
        let r = back ts x n q z.0 (All-front (IsFaultless source) (sites x) [] f) u s in
        record { written = r.written ∷ []; spell = last_item r.spell; says = (r.says, tt) }
    back_separated (grammar.more c q k r) [] z f u s = absurd z
    back_separated (grammar.more {u = ts} {v = vs} c {x = x} {xs = xs} q k others) (n ∷ ns) z f u s =
        let b = unbetween source ts c vs u s in
        let r = back ts x n q z.0 (All-front (IsFaultless source) (sites x) (flat_map sites xs) f) b.left b.first in
        let o = back_separated others ns z.1 (All-back (IsFaultless source) (sites x) (flat_map sites xs) f)
        b.right b.second in
        record {
          written = r.written ∷ o.written;
          spell = subst (λ l. AreSeparatedOf P l (r.written ∷ o.written)) (sym b.whole)
              (more_items b.lexeme r.spell (sym b.is.0 ∙ k) o.spell);
          says = (r.says, o.says);
        }

    back_listed : {ts : List Token} {ss : List S} → AreListed Q ts ss → (ns : List T) → AllZip Is ss ns
        → Faultless (flat_map sites ss) → (u : List Lexeme) → Spells source ts u → SaidAll Says (AreListedOf P u) ns
    back_listed (grammar.single q) [] z f u s = absurd z
    back_listed (grammar.single q) (n ∷ m ∷ ns) z f u s = absurd z.1
    back_listed (grammar.single {u = ts} {x = x} q) (n ∷ []) z f u s =
        let r = back ts x n q z.0 (All-front (IsFaultless source) (sites x) [] f) u s in
        record { written = r.written ∷ []; spell = single_item r.spell; says = (r.says, tt) }
    back_listed (grammar.listed c ko h kc) ns z f [] s = absurd s
    back_listed (grammar.listed c {u = ts} ko h kc) ns z f (x ∷ u) s =
        let k = unclosed source ts c u s.1 in
        let r = back_separated h ns z f k.left k.first in
        record {
          written = r.written;
          spell = subst (λ l. AreListedOf P (x ∷ l) r.written) (sym k.whole)
              (listed_items k.lexeme (sym s.0.0 ∙ ko) r.spell (sym k.is.0 ∙ kc));
          says = r.says;
        }

    back_many : {ts : List Token} {ss : List S} → AreMany Q ts ss → (ns : List T) → AllZip Is ss ns
        → Faultless (flat_map sites ss) → (u : List Lexeme) → Spells source ts u → SaidAll Says (AreManyOf P u) ns
    back_many grammar.none [] z f u s =
        record {
          written = [];
          spell = subst (λ l. AreManyOf P l []) (sym (no_lexeme source u s)) no_more_items;
          says = tt;
        }
    back_many grammar.none (n ∷ ns) z f u s = absurd z
    back_many (grammar.more q r) [] z f u s = absurd z
    back_many (grammar.more {u = ts} {v = vs} {x = x} {xs = xs} q others) (n ∷ ns) z f u s =
        let b = unsplit source ts vs u s in
        let r = back ts x n q z.0 (All-front (IsFaultless source) (sites x) (flat_map sites xs) f) b.left b.first in
        let o = back_many others ns z.1 (All-back (IsFaultless source) (sites x) (flat_map sites xs) f)
        b.right b.second in
        record {
          written = r.written ∷ o.written;
          spell = subst (λ l. AreManyOf P l (r.written ∷ o.written)) (sym b.whole) (item_first r.spell o.spell);
          says = (r.says, o.says);
        }

  module _ {T A : Type 0} (P : List Lexeme → A → Type 0) (Q : List Token → PathSyntax → Type 0)
      (Is : PathSyntax → T → Type 0) (Says : T → A → Type 0) (sites : PathSyntax → List Site)
      (back : (ts : List Token) (s : PathSyntax) (n : T) → Q ts s → Is s n → Faultless (sites s) → (u : List Lexeme)
      → Spells source ts u → Said Says P n u) where
    back_parents : {ts : List Token} {ss : List PathSyntax} → AreParents Q ts ss → (ns : List T) → AllZip Is ss ns
        → Faultless (flat_map sites ss) → (u : List Lexeme) → Spells source ts u → SaidAll Says (AreParentsOf P u) ns
    back_parents grammar.no_parents [] z f u s =
        record {
          written = [];
          spell = subst (λ l. AreParentsOf P l []) (sym (no_lexeme source u s)) no_parent;
          says = tt;
        }
    back_parents grammar.no_parents (n ∷ ns) z f u s = absurd z
    back_parents (grammar.in_parents k h) ns z f [] s = absurd s
    back_parents (grammar.in_parents {u = ts} k h) ns z f (x ∷ u) s =
        let r = back_listed P Q Is Says sites back h ns z f u s.1 in
        record { written = r.written; spell = some_parents (sym s.0.0 ∙ k) r.spell; says = r.says }

  -- paths, references, strings and names
  one_path : (ts : List Token) (p : PathSyntax) (n : Path) → IsPath ts p → tree.IsPathOf source p n
      → Faultless (path_sites p) → (u : List Lexeme) → Spells source ts u → Said SaysPath SpellsPath n u
  one_path ts p n (grammar.path chain) is f u s =
      record { written = texts_of n.ids; spell = back_path source chain n.ids is.0 u s; says = refl }

  pub one_string : (ts : List Token) (t : Token) (n : Node (List ℕ)) → IsStringToken ts t → tree.IsChoice source t n
      → Faultless (name_sites t) → (u : List Lexeme) → Spells source ts u → Said SaysChoice IsStringOf n u
  one_string ts t n (grammar.string k) is f [] s = absurd s
  one_string ts t n (grammar.string k) is f (x ∷ y ∷ u) s = absurd s.1
  one_string ts t n (grammar.string k) is f (x ∷ []) s =
      record { written = n.node; spell = a_string is.0.0 (sym s.0.0 ∙ k) (sym s.0.1 ∙ is.0.1) is.0.2; says = refl }

  alone_back : (t : Token) (n : Node QualName) (front : List Token) (last : Token) → t ∷ [] ≡ front ++ last ∷ []
      → tree.IsNameOf source last.kind last n.node.eid → tree.IsTypeOfRef source front n.node.path
      → is_name_kind t.kind ≡ true → IsFaultless source (site_of_kind t.kind t) → (x : Lexeme) → IsSpelled source t x
      → Said SaysRef SpellsRef n (x ∷ [])
  alone_back t n [] last e name ty h f x s =
      let same : t ≡ last = cc in
      let id = name_back source t x t.kind n.node.eid refl s h
      (subst (λ q. tree.IsNameOf source q.kind q n.node.eid) (sym same) name) f in
      record {
        written = record { ty = None; id = n.node.eid };
        spell = plain_ref id;
        says = (subst (λ p. SaysOptionalPath p None) (sym ty) tt, refl);
      }
  alone_back t n (a ∷ front) last e name ty h f x s =
      let g : [] ≡ front ++ last ∷ [] = cc in nothing_is front last [] g

  typed_by : {ts ws : List Token} → IsChain PathSep is_ident ts ws → (found : Option Path)
      → tree.IsTypeOfRef source ws found → (u : List Lexeme) → Spells source ts u
      → (names : List (List ℕ)) × SpellsPath u names × SaysOptionalPath found (Some names)
  typed_by (grammar.one h) None ty u s = absurd ty
  typed_by (grammar.more h k r) None ty u s = absurd ty
  typed_by (grammar.one {t = t} h) (Some p) ty u s =
      (texts_of p.ids, back_path source (grammar.one {t = t} h) p.ids ty.0 u s, refl)
  typed_by (grammar.more {t = t} {s = c} h k r) (Some p) ty u s =
      (texts_of p.ids, back_path source (grammar.more {t = t} {s = c} h k r) p.ids ty.0 u s, refl)

  string_of : (k : TokenKind) (t : Token) (v : List ℕ) → k ≡ StringLit → tree.IsNameOf source k t v
      → tree.IsNameOf source StringLit t v
  string_of k t v e h = subst (λ x. tree.IsNameOf source x t v) e h

  one_ref : (ts : List Token) (p : PathSyntax) (n : Node QualName) → IsRef ts p → tree.IsRefOf source p n
      → Faultless (path_sites p) → (u : List Lexeme) → Spells source ts u → Said SaysRef SpellsRef n u
  one_ref ts p n (grammar.plain h) is f [] s = absurd s
  one_ref ts p n (grammar.plain h) is f (x ∷ y ∷ u) s = absurd s.1
  one_ref ts p n (grammar.plain {t = t} h) is f (x ∷ []) s =
      alone_back t n is.0 is.1 is.2 is.3 is.4 h (All-head (IsFaultless source) (site_of_kind t.kind t) [] f) x s.0
  one_ref ts p n (grammar.typed {u = us} {names = ws} c q chain k kq) is f u s =
      let same = same_from_push ws is.0 q is.1 is.2 in
      let b = unbetween source us c (q ∷ []) u s in
      let d = unclosed source [] q b.right b.second in
      let empty_left : d.left ≡ [] = no_lexeme source d.left d.first in
      let ty = typed_by chain n.node.path (subst (λ l. tree.IsTypeOfRef source l n.node.path) (sym same.0) is.4)
      b.left b.first in
      let id : tree.IsNameOf source StringLit q n.node.eid = string_of q.kind q n.node.eid kq
      (subst (λ z. tree.IsNameOf source z.kind z n.node.eid) (sym same.1) is.3) in
      let whole : u ≡ b.left ++ b.lexeme ∷ d.lexeme ∷ [] = b.whole
      ∙ ap (λ l. b.left ++ b.lexeme ∷ l) (d.whole ∙ ap (λ l. l ++ d.lexeme ∷ []) empty_left) in
      let r : WrittenRef = record { ty = Some ty.0; id = n.node.eid } in
      record {
        written = r;
        spell = subst (λ l. SpellsRef l r) (sym whole)
            (typed_ref b.lexeme d.lexeme id.0 ty.1 (sym b.is.0 ∙ k) (sym d.is.0 ∙ kq) (sym d.is.1 ∙ id.1) id.2);
        says = (ty.2, refl);
      }

  back_idents : {ts ws : List Token} → IsChain Comma is_ident ts ws → (ns : List (Node Id))
      → AllZip (tree.IsIdNode source) ws ns → (u : List Lexeme) → Spells source ts u
      → SaidAll SaysId (IsChainOf Comma u) ns
  back_idents (grammar.one h) [] z u s = absurd z
  back_idents (grammar.one h) (n ∷ m ∷ ns) z u s = absurd z.1
  back_idents (grammar.one h) (n ∷ []) z [] s = absurd s
  back_idents (grammar.one h) (n ∷ []) z (x ∷ y ∷ u) s = absurd s.1
  back_idents (grammar.one {t = t} h) (n ∷ []) z (x ∷ []) s =
      let b = ident_back source t x n.node s.0 h z.0.0 in
      record { written = x.text ∷ []; spell = one b.0; says = (sym b.1, tt) }
  back_idents (grammar.more h k r) [] z u s = absurd z
  back_idents (grammar.more h k r) (n ∷ ns) z [] s = absurd s
  back_idents (grammar.more h k r) (n ∷ ns) z (x ∷ []) s = absurd s.1
  back_idents (grammar.more {t = t} h k r) (n ∷ ns) z (x ∷ y ∷ u) s =
      let b = ident_back source t x n.node s.0 h z.0.0 in
      let o = back_idents r ns z.1 u s.1.1 in
      record { written = x.text ∷ o.written; spell = more b.0 (sym s.1.0.0 ∙ k) o.spell; says = (sym b.1, o.says) }

  back_names : {ts ws : List Token} → IsChain Comma is_name_kind ts ws → (ns : List (Node (List ℕ)))
      → AllZip (tree.IsNameNode source) ws ns → Faultless (names_sites ws) → (u : List Lexeme) → Spells source ts u
      → SaidAll SaysName (AreNamesOf u) ns
  back_names (grammar.one h) [] z f u s = absurd z
  back_names (grammar.one h) (n ∷ m ∷ ns) z f u s = absurd z.1
  back_names (grammar.one h) (n ∷ []) z f [] s = absurd s
  back_names (grammar.one h) (n ∷ []) z f (x ∷ y ∷ u) s = absurd s.1
  back_names (grammar.one {t = t} h) (n ∷ []) z f (x ∷ []) s =
      record {
        written = n.node ∷ [];
        spell = one_name (name_back source t x t.kind n.node refl s.0 h z.0.0
            (All-head (IsFaultless source) (site_of_kind t.kind t) [] f));
        says = (refl, tt);
      }
  back_names (grammar.more h k r) [] z f u s = absurd z
  back_names (grammar.more h k r) (n ∷ ns) z f [] s = absurd s
  back_names (grammar.more h k r) (n ∷ ns) z f (x ∷ []) s = absurd s.1
  back_names (grammar.more {t = t} {names = ws} h k r) (n ∷ ns) z f (x ∷ y ∷ u) s =
      let o = back_names r ns z.1 (All-tail (IsFaultless source) (site_of_kind t.kind t) (names_sites ws) f) u s.1.1 in
      record {
        written = n.node ∷ o.written;
        spell = more_names (name_back source t x t.kind n.node refl s.0 h z.0.0
            (All-head (IsFaultless source) (site_of_kind t.kind t) (names_sites ws) f)) (sym s.1.0.0 ∙ k) o.spell;
        says = (refl, o.says);
      }

  -- attributes, tags, members
  back_shape : {ts : List Token} {x : Option (List AttrSyntax × Span)} → IsShape ts x
      → (n : Node (List (Node (Annotated AttrDecl)))) → tree.IsShapeOf source x n → Faultless (shape_sites x)
      → (u : List Lexeme) → Spells source ts u → Said SaysShape SpellsShape n u
  back_shape grammar.no_shape n is f u s =
      record {
        written = no_more;
        spell = subst (λ l. SpellsShape l no_more) (sym (no_lexeme source u s)) no_shape;
        says = subst (λ l. ShowsAttributes l no_more) (sym is.0) shows_none;
      }
  back_shape (grammar.bare_shape h) n is f u s =
      let r = back_record source (back_notes source) h n.node is.0 f u s in
      record { written = r.written; spell = bare_shape r.spell; says = r.shows }
  back_shape (grammar.equals_shape k h) n is f [] s = absurd s
  back_shape (grammar.equals_shape k h) n is f (x ∷ u) s =
      let r = back_record source (back_notes source) h n.node is.0 f u s.1 in
      record { written = r.written; spell = equals_shape (sym s.0.0 ∙ k) r.spell; says = r.shows }

  back_tags : {ts : List Token} {x : Option TypeSyntax} → AreTags ts x → (n : Option (Node «Type»))
      → tree.AreTagsOf source x n → Faultless (tags_sites x) → (u : List Lexeme) → Spells source ts u
      → Said SaysTags SpellTags n u
  back_tags grammar.no_tags n is f u s =
      record {
        written = None;
        spell = subst (λ l. SpellTags l None) (sym (no_lexeme source u s)) no_tags;
        says = subst (λ l. SaysTags l None) (sym is) tt;
      }
  back_tags (grammar.some_tags k h) None is f u s = absurd is
  back_tags (grammar.some_tags k h) (Some n) is f [] s = absurd s
  back_tags (grammar.some_tags k h) (Some n) is f (x ∷ u) s =
      let r = back_type source (back_notes source) h n is f u s.1 in
      record { written = Some r.written; spell = some_tags (sym s.0.0 ∙ k) r.spell; says = r.shows }

  -- a list that may be absent
  optional_back : {S T A : Type 0} (Is : S → T → Type 0) (Says : T → A → Type 0) (ss : List S) (found : Option (List T))
      → tree.IsOptional source (AllZip Is) ss found
      → (ns : List T) × AllZip Is ss ns × ((xs : List A) → AllZip Says ns xs → SaysOptional Says found xs)
  optional_back {A = A} Is Says [] None is = ([], tt, absent)
    where
      absent : (xs : List A) → AllZip Says [] xs → SaysOptional Says None xs
      absent [] z = tt
      absent (x ∷ xs) z = absurd z
  optional_back Is Says [] (Some ns) is = cc
  optional_back Is Says (s ∷ ss) None is = absurd is
  optional_back Is Says (s ∷ ss) (Some []) is = absurd is
  optional_back {A = A} Is Says (s ∷ ss) (Some (n ∷ ns)) is = (n ∷ ns, is, present)
    where
      present : (xs : List A) → AllZip Says (n ∷ ns) xs → SaysOptional Says (Some (n ∷ ns)) xs
      present [] z = absurd z
      present (x ∷ xs) z = z

  one_app : (ts : List Token) (a : AppSyntax) (n : Node AppDecl) → IsApp ts a → tree.IsAppOf source a n
      → Faultless (app_sites a) → (u : List Lexeme) → Spells source ts u → Said SaysMember IsMemberOf n u
  one_app ts a n (grammar.types hr hc h) is f [] s = absurd s
  one_app ts a n (grammar.types hr hc h) is f (x ∷ []) s = absurd s.1
  one_app ts a n (grammar.types {w = w} {ps = ps} hr hc h) is f (x ∷ y ∷ u) s =
      let o = optional_back (tree.IsPathOf source) SaysPath ps is.0 is.2 in
      let r = back_listed SpellsPath IsPath (tree.IsPathOf source) SaysPath path_sites one_path h o.0 o.1 f u s.1.1 in
      record {
        written = types (tree.role_of x.kind) r.written;
        spell = types_of (ap is_role (sym s.0.0) ∙ hr) (sym s.1.0.0 ∙ hc) r.spell;
        says = (
          record { node = tree.role_of w.kind; loc = Some w.loc },
          is.0,
          ap (λ (z : Node AppDecl). z.node) is.1,
          ap tree.role_of s.0.0,
          o.2 r.written r.says,
        );
      }
  one_app ts a n (grammar.context_path hw hc h) is f [] s = absurd s
  one_app ts a n (grammar.context_path hw hc h) is f (x ∷ []) s = absurd s.1
  one_app ts a n (grammar.context_path {u = us} {p = p} hw hc h) is f (x ∷ y ∷ u) s =
      let r = one_path us p is.0 h is.2 f u s.1.1 in
      record {
        written = context_path r.written;
        spell = path_context (sym s.0.0 ∙ hw) (sym s.1.0.0 ∙ hc) r.spell;
        says = (is.0, ap (λ (z : Node AppDecl). z.node) is.1, r.says);
      }
  one_app ts a n (grammar.context_record hw hc h) is f [] s = absurd s
  one_app ts a n (grammar.context_record hw hc h) is f (x ∷ []) s = absurd s.1
  one_app ts a n (grammar.context_record {u = us} hw hc h) is f (x ∷ y ∷ u) s =
      let r = back_record source (back_notes source) h is.0 is.2 f u s.1.1 in
      let m : Node (List (Node (Annotated AttrDecl))) = record { node = is.0; loc = Some (whole_place us) } in
      record {
        written = context_record r.written;
        spell = record_context (sym s.0.0 ∙ hw) (sym s.1.0.0 ∙ hc) r.spell;
        says = (m, ap (λ (z : Node AppDecl). z.node) is.1, r.shows);
      }

  applies_back : {us : List Token} {xs : List AppSyntax} → AreSeparated IsApp us xs → (ns : List (Node AppDecl))
      → AllZip (tree.IsAppOf source) xs ns → (loc : Span) → Faultless (apps_sites xs loc) → (u : List Lexeme)
      → Spells source us u → SaidAll SaysMember (λ ms. AreSeparatedOf IsMemberOf u ms × HasOne ms) ns
  applies_back {xs = []} h ns z loc f u s = absurd (All-head (IsFaultless source) (empty loc) [] f _ _ (empty_list loc))
  applies_back {xs = a ∷ xs} h ns z loc f u s =
      let r = back_separated IsMemberOf IsApp (tree.IsAppOf source) SaysMember app_sites one_app h ns z f u s in
      record { written = r.written; spell = (r.spell, has_one a xs ns r.written z r.says); says = r.says }
    where
      has_one : (a : AppSyntax) (xs : List AppSyntax) (ns : List (Node AppDecl)) (ms : List WrittenMember)
          → AllZip (tree.IsAppOf source) (a ∷ xs) ns → AllZip SaysMember ns ms → HasOne ms
      has_one a xs [] ms z says = absurd z
      has_one a xs (n ∷ ns) [] z says = absurd says
      has_one a xs (n ∷ ns) (m ∷ ms) z says = tt

  applies_spelled : (w o : Lexeme) (c : Lexeme) (u : List Lexeme) (ms : List WrittenMember) → w.kind ≡ KwAppliesTo
      → o.kind ≡ LBrace → AreSeparatedOf IsMemberOf u ms → HasOne ms → c.kind ≡ RBrace
      → SpellsApplies (w ∷ o ∷ (u ++ c ∷ [])) (Some ms)
  applies_spelled w o c u [] kw ko h some kc = absurd some
  applies_spelled w o c u (m ∷ ms) kw ko h some kc = some_applies c kw ko h kc

  back_applies : {ts : List Token} {x : Option (List AppSyntax × Span)} → Applies ts x
      → (n : Option (Node (List (Node AppDecl)))) → tree.AppliesOf source x n → Faultless (applies_sites x)
      → (u : List Lexeme) → Spells source ts u → Said SaysApplies SpellsApplies n u
  back_applies grammar.no_applies n is f u s =
      record {
        written = None;
        spell = subst (λ l. SpellsApplies l None) (sym (no_lexeme source u s)) no_applies;
        says = subst (λ l. SaysApplies l None) (sym is) tt;
      }
  back_applies (grammar.some_applies c kw ko h kc) None is f u s = absurd is
  back_applies (grammar.some_applies c kw ko h kc) (Some n) is f [] s = absurd s
  back_applies (grammar.some_applies c kw ko h kc) (Some n) is f (x ∷ []) s = absurd s.1
  back_applies (grammar.some_applies {w = w} {o = o} c {u = us} kw ko h kc) (Some n) is f (x ∷ y ∷ u) s =
      let k = unclosed source us c u s.1.1 in
      let r = applies_back h n.node is.0 (whole_place (o ∷ (us ++ c ∷ []))) f k.left k.first in
      record {
        written = Some r.written;
        spell = subst (λ l. SpellsApplies (x ∷ y ∷ l) (Some r.written)) (sym k.whole)
            (applies_spelled x y k.lexeme k.left r.written (sym s.0.0 ∙ kw) (sym s.1.0.0 ∙ ko) r.spell.0 r.spell.1
            (sym k.is.0 ∙ kc));
        says = r.says;
      }

  -- the choices of an enum: there is one
  choices_back : {us xs : List Token} → AreSeparated IsStringToken us xs → (ns : List (Node (List ℕ)))
      → AllZip (tree.IsChoice source) xs ns → (loc : Span) → Faultless (choices_sites xs loc) → (u : List Lexeme)
      → Spells source us u → SaidAll SaysChoice (λ ms. AreSeparatedOf IsStringOf u ms × HasOne ms) ns
  choices_back {xs = []} h ns z loc f u s = absurd (All-head (IsFaultless source) (empty loc) [] f _ _ (empty_list loc))
  choices_back {xs = a ∷ xs} h ns z loc f u s =
      let r = back_separated IsStringOf IsStringToken (tree.IsChoice source) SaysChoice name_sites one_string h
      ns z f u s in
      record { written = r.written; spell = (r.spell, has_one a xs ns r.written z r.says); says = r.says }
    where
      has_one : (a : Token) (xs : List Token) (ns : List (Node (List ℕ))) (ms : List (List ℕ))
          → AllZip (tree.IsChoice source) (a ∷ xs) ns → AllZip SaysChoice ns ms → HasOne ms
      has_one a xs [] ms z says = absurd z
      has_one a xs (n ∷ ns) [] z says = absurd says
      has_one a xs (n ∷ ns) (m ∷ ms) z says = tt

  enum_spelled : (e : Lexeme) (i : List Lexeme) (n o : Lexeme) (h : List Lexeme) (c z : Lexeme)
      (names choices : List (List ℕ))
      → e.kind ≡ KwEntity → IsChainOf Comma i names → n.kind ≡ KwEnum → o.kind ≡ LBracket
      → AreSeparatedOf IsStringOf h choices → HasOne choices → c.kind ≡ RBracket → z.kind ≡ Semi
      → SpellsDecl (e ∷ (i ++ n ∷ o ∷ (h ++ c ∷ z ∷ []))) (enum names choices)
  enum_spelled e i n o h c z names [] ke hi kn ko hs some kc kz = absurd some
  enum_spelled e i n o h c z names (a ∷ choices) ke hi kn ko hs some kc kz = enum_of n o c z ke hi kn ko hs kc kz

  paths_back : {ts : List Token} {ss : List PathSyntax} → AreParents IsPath ts ss → (ns : List Path)
      → AllZip (tree.IsPathOf source) ss ns → Faultless (paths_sites ss) → (u : List Lexeme) → Spells source ts u
      → SaidAll SaysPath (AreParentsOf SpellsPath u) ns
  paths_back = back_parents SpellsPath IsPath (tree.IsPathOf source) SaysPath path_sites one_path

  refs_back : {ts : List Token} {ss : List PathSyntax} → AreParents IsRef ts ss → (ns : List (Node QualName))
      → AllZip (tree.IsRefOf source) ss ns → Faultless (paths_sites ss) → (u : List Lexeme) → Spells source ts u
      → SaidAll SaysRef (AreParentsOf SpellsRef u) ns
  refs_back = back_parents SpellsRef IsRef (tree.IsRefOf source) SaysRef path_sites one_ref

  back_decl : {ts : List Token} {d : DeclSyntax} → IsDecl ts d → (n : Declaration) → tree.IsDeclOf source d n
      → Faultless (decl_sites d) → (u : List Lexeme) → Spells source ts u → Said SaysDecl SpellsDecl n u
  back_decl (grammar.entity_decl {e = e} z {i = i} {p = p} {s = h} {t = t} {names = ws} {parents = ps} {shape = x}
      {tags = y} ke hi hp hs ht kz) (declaration.Entity (entity_decl.Standard d)) is f [] s = absurd s
  back_decl (grammar.entity_decl {e = e} z {i = i} {p = p} {s = h} {t = t} {names = ws} {parents = ps} {shape = x}
      {tags = y} ke hi hp hs ht kz) (declaration.Entity (entity_decl.Standard d)) is f (a ∷ u) s =
      let f1 = All-back (IsFaultless source) (names_sites ws) (paths_sites ps ++ (shape_sites x ++ tags_sites y)) f in
      let f2 = All-back (IsFaultless source) (paths_sites ps) (shape_sites x ++ tags_sites y) f1 in
      let b = unsplit source i (p ++ (h ++ (t ++ z ∷ []))) u s.1 in
      let c = unsplit source p (h ++ (t ++ z ∷ [])) b.right b.second in
      let g = unsplit source h (t ++ z ∷ []) c.right c.second in
      let k = unclosed source t z g.right g.second in
      let rn = back_idents hi d.names is.0 b.left b.first in
      let rp = paths_back hp d.member_of_types is.1
      (All-front (IsFaultless source) (paths_sites ps) (shape_sites x ++ tags_sites y) f1) c.left c.first in
      let rs = back_shape hs d.attrs is.2 (All-front (IsFaultless source) (shape_sites x) (tags_sites y) f2)
      g.left g.first in
      let rt = back_tags ht d.tags is.3 (All-back (IsFaultless source) (shape_sites x) (tags_sites y) f2)
      k.left k.first in
      let whole : u ≡ b.left ++ (c.left ++ (g.left ++ (k.left ++ k.lexeme ∷ []))) = b.whole
      ∙ ap (λ l. b.left ++ l) (c.whole ∙ ap (λ l. c.left ++ l) (g.whole ∙ ap (λ l. g.left ++ l) k.whole)) in
      record {
        written = entity rn.written rp.written rs.written rt.written;
        spell = subst (λ l. SpellsDecl (a ∷ l) (entity rn.written rp.written rs.written rt.written)) (sym whole)
            (entity_of k.lexeme (sym s.0.0 ∙ ke) rn.spell rp.spell rs.spell rt.spell (sym k.is.0 ∙ kz));
        says = (rn.says, rp.says, rs.says, rt.says);
      }
  back_decl (grammar.entity_decl z ke hi hp hs ht kz) _ is f u s = absurd is
  back_decl (grammar.enum_decl n o c z ke hi kn ko hs kc kz) (declaration.Entity (entity_decl.Enum d)) is f [] s =
      absurd s
  back_decl (grammar.enum_decl {e = e} n o c z {i = i} {s = h} {names = ws} {choices = xs} ke hi kn ko hs kc kz)
      (declaration.Entity (entity_decl.Enum d)) is f (a ∷ u) s =
      let loc = whole_place (o ∷ (h ++ c ∷ [])) in
      let b = unbetween source i n (o ∷ (h ++ c ∷ z ∷ [])) u s.1 in
      let g = unbetween source [] o (h ++ c ∷ z ∷ []) b.right b.second in
      let k = unbetween source h c (z ∷ []) g.right g.second in
      let l = unbetween source [] z [] k.right k.second in
      let rn = back_idents hi d.names is.0 b.left b.first in
      let rc = choices_back hs d.choices is.1 loc
      (All-back (IsFaultless source) (names_sites ws) (choices_sites xs loc) f) k.left k.first in
      let one_o : b.right ≡ g.lexeme ∷ g.right = g.whole
      ∙ ap (λ q. q ++ g.lexeme ∷ g.right) (no_lexeme source g.left g.first) in
      let one_z : k.right ≡ l.lexeme ∷ [] = l.whole
      ∙ (ap (λ q. q ++ l.lexeme ∷ l.right) (no_lexeme source l.left l.first)
      ∙ ap (λ q. l.lexeme ∷ q) (no_lexeme source l.right l.second)) in
      let whole : u ≡ b.left ++ b.lexeme ∷ g.lexeme ∷ (k.left ++ k.lexeme ∷ l.lexeme ∷ []) =
      b.whole ∙ ap (λ q. b.left ++ b.lexeme ∷ q)
      (one_o ∙ ap (λ q. g.lexeme ∷ q) (k.whole ∙ ap (λ q. k.left ++ k.lexeme ∷ q) one_z)) in
      record {
        written = enum rn.written rc.written;
        spell = subst (λ q. SpellsDecl (a ∷ q) (enum rn.written rc.written)) (sym whole)
            (enum_spelled a b.left b.lexeme g.lexeme k.left k.lexeme l.lexeme rn.written rc.written (sym s.0.0 ∙ ke)
            rn.spell (sym b.is.0 ∙ kn) (sym g.is.0 ∙ ko) rc.spell.0 rc.spell.1 (sym k.is.0 ∙ kc) (sym l.is.0 ∙ kz));
        says = (rn.says, rc.says);
      }
  back_decl (grammar.enum_decl n o c z ke hi kn ko hs kc kz) _ is f u s = absurd is
  back_decl (grammar.external_entity z kx ke hi hp kz) (declaration.Entity (entity_decl.External d)) is f [] s =
      absurd s
  back_decl (grammar.external_entity z kx ke hi hp kz) (declaration.Entity (entity_decl.External d)) is f (a ∷ []) s =
      absurd s.1
  back_decl (grammar.external_entity z {i = i} {p = p} {names = ws} {parents = ps} kx ke hi hp kz)
      (declaration.Entity (entity_decl.External d)) is f (a ∷ e ∷ u) s =
      let b = unsplit source i (p ++ z ∷ []) u s.1.1 in
      let k = unclosed source p z b.right b.second in
      let rn = back_idents hi d.names is.0 b.left b.first in
      let rp = paths_back hp d.member_of_types is.1
      (All-back (IsFaultless source) (names_sites ws) (paths_sites ps) f) k.left k.first in
      record {
        written = external_entity rn.written rp.written;
        spell = subst (λ q. SpellsDecl (a ∷ e ∷ q) (external_entity rn.written rp.written))
            (sym (b.whole ∙ ap (λ q. b.left ++ q) k.whole))
            (external_entity_of k.lexeme (sym s.0.0 ∙ kx) (sym s.1.0.0 ∙ ke) rn.spell rp.spell (sym k.is.0 ∙ kz));
        says = (rn.says, rp.says);
      }
  back_decl (grammar.external_entity z kx ke hi hp kz) _ is f u s = absurd is
  back_decl (grammar.action_decl z ka hn hr hs kz) (declaration.Action (action_decl.Defined d)) is f [] s = absurd s
  back_decl (grammar.action_decl z {n = n} {r = p} {s = h} {names = ws} {parents = ps} {applies = x} ka hn hr hs kz)
      (declaration.Action (action_decl.Defined d)) is f (a ∷ u) s =
      let f1 = All-back (IsFaultless source) (names_sites ws) (paths_sites ps ++ applies_sites x) f in
      let b = unsplit source n (p ++ (h ++ z ∷ [])) u s.1 in
      let c = unsplit source p (h ++ z ∷ []) b.right b.second in
      let k = unclosed source h z c.right c.second in
      let o = optional_back (tree.IsRefOf source) SaysRef ps d.parents is.1 in
      let rn = back_names hn d.names is.0
      (All-front (IsFaultless source) (names_sites ws) (paths_sites ps ++ applies_sites x) f) b.left b.first in
      let rp = refs_back hr o.0 o.1 (All-front (IsFaultless source) (paths_sites ps) (applies_sites x) f1)
      c.left c.first in
      let rs = back_applies hs d.app_decls is.2 (All-back (IsFaultless source) (paths_sites ps) (applies_sites x) f1)
      k.left k.first in
      record {
        written = action rn.written rp.written rs.written;
        spell = subst (λ q. SpellsDecl (a ∷ q) (action rn.written rp.written rs.written))
            (sym (b.whole ∙ ap (λ q. b.left ++ q) (c.whole ∙ ap (λ q. c.left ++ q) k.whole)))
            (action_of k.lexeme (sym s.0.0 ∙ ka) rn.spell rp.spell rs.spell (sym k.is.0 ∙ kz));
        says = (rn.says, o.2 rp.written rp.says, rs.says);
      }
  back_decl (grammar.action_decl z ka hn hr hs kz) _ is f u s = absurd is
  back_decl (grammar.external_action z kx ka hn hr kz) (declaration.Action (action_decl.External d)) is f [] s =
      absurd s
  back_decl (grammar.external_action z kx ka hn hr kz) (declaration.Action (action_decl.External d)) is f (a ∷ []) s =
      absurd s.1
  back_decl (grammar.external_action z {n = n} {r = p} {names = ws} {parents = ps} kx ka hn hr kz)
      (declaration.Action (action_decl.External d)) is f (a ∷ e ∷ u) s =
      let b = unsplit source n (p ++ z ∷ []) u s.1.1 in
      let k = unclosed source p z b.right b.second in
      let o = optional_back (tree.IsRefOf source) SaysRef ps d.parents is.1 in
      let rn = back_names hn d.names is.0 (All-front (IsFaultless source) (names_sites ws) (paths_sites ps) f)
      b.left b.first in
      let rp = refs_back hr o.0 o.1 (All-back (IsFaultless source) (names_sites ws) (paths_sites ps) f)
      k.left k.first in
      record {
        written = external_action rn.written rp.written;
        spell = subst (λ q. SpellsDecl (a ∷ e ∷ q) (external_action rn.written rp.written))
            (sym (b.whole ∙ ap (λ q. b.left ++ q) k.whole))
            (external_action_of k.lexeme (sym s.0.0 ∙ kx) (sym s.1.0.0 ∙ ka) rn.spell rp.spell (sym k.is.0 ∙ kz));
        says = (rn.says, o.2 rp.written rp.says);
      }
  back_decl (grammar.external_action z kx ka hn hr kz) _ is f u s = absurd is
  back_decl (grammar.common_decl z kw hn ke h kz) (declaration.Common d) is f [] s = absurd s
  back_decl (grammar.common_decl z kw hn ke h kz) (declaration.Common d) is f (a ∷ []) s = absurd s.1
  back_decl (grammar.common_decl z kw hn ke h kz) (declaration.Common d) is f (a ∷ x ∷ []) s = absurd s.1.1
  back_decl (grammar.common_decl {n = n} z {u = us} {t = t} kw hn ke h kz) (declaration.Common d) is f
      (a ∷ x ∷ e ∷ u) s =
      let k = unclosed source us z u s.1.1.1 in
      let i = ident_back source n x d.name.node s.1.0 hn is.0.0 in
      let r = back_type source (back_notes source) h d.def is.1
      (All-back (IsFaultless source) (name_sites n) (sites_of_type t) f) k.left k.first in
      record {
        written = common x.text r.written;
        spell = subst (λ q. SpellsDecl (a ∷ x ∷ e ∷ q) (common x.text r.written)) (sym k.whole)
            (common_of k.lexeme (sym s.0.0 ∙ kw) i.0 (sym s.1.1.0.0 ∙ ke) r.spell (sym k.is.0 ∙ kz));
        says = (sym i.1, r.shows);
      }
  back_decl (grammar.common_decl z kw hn ke h kz) _ is f u s = absurd is

  one_declared : (ts : List Token) (d : DeclaredSyntax) (n : Annotated (Node Declaration)) → IsDeclared ts d
      → tree.IsDeclaredOf source d n → Faultless (declared_sites d) → (u : List Lexeme) → Spells source ts u
      → Said SaysDeclared SpellsDeclared n u
  one_declared ts d n (grammar.declared {a = as'} {u = us} {xs = xs} {d = e} ha h) is f u s =
      let b = unsplit source as' us u s in
      let notes = back_notes source as' xs n.annotations.0 b.left ha is.2
      (All-head (IsFaultless source) (annotations xs) (decl_sites e) f) b.first in
      let r = back_decl h n.item.node is.0 (All-tail (IsFaultless source) (annotations xs) (decl_sites e) f)
      b.right b.second in
      let w : WrittenDeclared = record { notes = n.annotations.0; decl = r.written } in
      record {
        written = w;
        spell = subst (λ l. SpellsDeclared l w) (sym b.whole) (declared_of notes r.spell);
        says = (r.says, refl);
      }

  one_item : (ts : List Token) (i : ItemSyntax) (n : Annotated Namespace) → IsItem ts i → tree.IsItemOf source i n
      → Faultless (item_sites i) → (u : List Lexeme) → Spells source ts u → Said SaysItem SpellsItem n u
  one_item ts i n (grammar.namespace k o c {a = as'} {p = p} {u = us} {xs = xs} {name = name} {ds = ds} ha kn hp ko hd
      kc) is f u s =
      let f1 = All-tail (IsFaultless source) (annotations xs) (path_sites name ++ flat_map declared_sites ds) f in
      let b = unbetween source as' k (p ++ o ∷ (us ++ c ∷ [])) u s in
      let g = unbetween source p o (us ++ c ∷ []) b.right b.second in
      let l = unclosed source us c g.right g.second in
      let notes = back_notes source as' xs n.annotations.0 b.left ha is.5
      (All-head (IsFaultless source) (annotations xs) (path_sites name ++ flat_map declared_sites ds) f) b.first in
      let rp = one_path p name is.0 hp is.3
      (All-front (IsFaultless source) (path_sites name) (flat_map declared_sites ds) f1) g.left g.first in
      let rd = back_many SpellsDeclared IsDeclared (tree.IsDeclaredOf source) SaysDeclared declared_sites one_declared
      hd is.1 is.4 (All-back (IsFaultless source) (path_sites name) (flat_map declared_sites ds) f1) l.left l.first in
      record {
        written = namespace n.annotations.0 rp.written rd.written;
        spell = subst (λ q. SpellsItem q (namespace n.annotations.0 rp.written rd.written))
            (sym (b.whole ∙ ap (λ q. b.left ++ b.lexeme ∷ q) (g.whole ∙ ap (λ q. g.left ++ g.lexeme ∷ q) l.whole)))
            (namespace_of b.lexeme g.lexeme l.lexeme notes (sym b.is.0 ∙ kn) rp.spell (sym g.is.0 ∙ ko) rd.spell
            (sym l.is.0 ∙ kc));
        says = (
          subst (λ (x : Namespace). SaysOptionalPath x.name (Some rp.written)) (sym is.2) rp.says,
          subst
              (λ (x : Namespace). AllZip SaysDeclared x.decls rd.written) (sym is.2) rd.says,
          refl,
        );
      }
  one_item ts i n (grammar.outside {d = d} h) is f u s =
      let r = one_declared ts d is.0 h is.2 f u s in
      record {
        written = outside r.written;
        spell = outside_of r.spell;
        says = subst (λ (x : Annotated Namespace). SaysItem x (outside r.written)) (sym is.1)
            (refl, (r.says, tt), refl);
      }

  pub back_schema : {ts : List Token} {items : List ItemSyntax} → IsSyntax ts items
      → (ns : List (Annotated Namespace)) → tree.IsTreeOf source items ns → Faultless (flat_map item_sites items)
      → (u : List Lexeme) → Spells source ts u → SaidAll SaysItem (SpellsSchema u) ns
  back_schema = back_many SpellsItem IsItem (tree.IsItemOf source) SaysItem item_sites one_item
