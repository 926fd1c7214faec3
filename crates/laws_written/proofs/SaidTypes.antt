-- What the tree of a type says, its lexemes spell.
use Rattle.std.proofs.Common.{◌≡◌, ℕ, Bool, true, false, not, List, [], ◌∷◌, ◌++◌, Some, refl, sym, ap, ◌∙◌, subst, inl}
use Rattle.std.proofs.Common.{inr}
use Rattle.std.specs.List.{All, AllZip}
use Rattle.std.proofs.lemmas.Bool.{and_from, cases_Bool}
use Rattle.std.proofs.lemmas.List.Elements.{All-head, All-tail}
use Rattle.cedar_data.specs.declared.node.Node.{Node}
use Rattle.cedar_data.specs.Words as words
use Rattle.cedar_data.proofs.Lists.{All-front, All-back}
use Rattle.schema_syntax_grammar.specs.declared.token_kind.TokenKind.{TokenKind}
use Rattle.schema_syntax_grammar.specs.declared.token_kind.TokenKind.TheVariants.{KwNamespace, KwEntity, KwExternal}
use Rattle.schema_syntax_grammar.specs.declared.token_kind.TokenKind.TheVariants.{KwIn, KwType, KwSet, KwAppliesTo}
use Rattle.schema_syntax_grammar.specs.declared.token_kind.TokenKind.TheVariants.{KwPrincipal, KwAction, KwResource}
use Rattle.schema_syntax_grammar.specs.declared.token_kind.TokenKind.TheVariants.{KwContext, KwTags, KwEnum, Identifier}
use Rattle.schema_syntax_grammar.specs.declared.token_kind.TokenKind.TheVariants.{StringLit, Colon, PathSep}
use Rattle.schema_syntax_grammar.specs.Grammar.{is_ident}
use Rattle.schema_syntax_grammar.specs.Grammar.{is_word_kind}
use Rattle.schema_syntax_grammar.specs.Grammar.{is_name_kind}
use Rattle.schema_syntax_tokens.specs.declared.token.Token.{Token}
use Rattle.schema_syntax_tokens.specs.Laid.{Lexeme, IsSpelled, Spells}
use Rattle.schema_syntax_tokens.specs.TokenLists.{whole_place}
use Rattle.cedar_identifiers.specs.Words.{is_reserved, is_id}
use Rattle.cedar_identifiers.specs.Names.{texts_of}
use Rattle.cedar_identifiers.specs.declared.id.Id.{Id}
use Rattle.cedar_identifiers.specs.declared.annotations.Annotations.{Annotations}
use Rattle.schema_syntax_parser.specs.declared.syntax.AnnotationSyntax.{AnnotationSyntax}
use Rattle.schema_syntax_parser.specs.declared.syntax.PathSyntax.{PathSyntax}
use Rattle.schema_syntax_parser.specs.declared.syntax.TypeSyntax.{TypeSyntax, out-TypeSyntax, out-roll-TypeSyntax}
use Rattle.schema_syntax_parser.specs.declared.syntax.TypeSyntax.TheVariants as syntax
use Rattle.schema_syntax_parser.specs.declared.syntax.TypeSyntax.TheOpen.{TypeSyntax-F, AttrSyntax-F}
use Rattle.schema_syntax_parser.specs.declared.syntax.AttrSyntax.{AttrSyntax, roll-AttrSyntax, out-AttrSyntax}
use Rattle.schema_syntax_parser.specs.declared.syntax.AttrSyntax.{out-roll-AttrSyntax}
use Rattle.schema_syntax_parser.specs.Syntax.{IsChain, AreAnnotations, IsMark, IsType, IsRecord, AreAttrs}
use Rattle.schema_syntax_parser.specs.Syntax.{IsAttr}
use Rattle.schema_syntax_parser.specs.Syntax as S
use Rattle.schema_syntax_tree.specs.declared.types.Type.{«Type»}
use Rattle.schema_syntax_tree.specs.declared.types.Type.TheOpen.{AttrDecl-F}
use Rattle.schema_syntax_tree.specs.declared.types.AttrDecl.{AttrDecl, roll-AttrDecl, out-AttrDecl, out-roll-AttrDecl}
use Rattle.schema_syntax_tree.specs.declared.annotated.Annotated.{Annotated}
use Rattle.schema_syntax_reader.specs.Leaves.{Notes, word_at, AreNotes}
use Rattle.schema_syntax_reader.specs.Sites.{Site, word, annotations, site_of_kind, name_sites, sites_of_type}
use Rattle.schema_syntax_reader.specs.Sites.{sites_of_attr, sites_of_attrs}
use Rattle.schema_syntax_reader.specs.UserFaults.{reserved}
use Rattle.schema_syntax_reader.specs.Trees as tree
use Rattle.schema_syntax_reader.proofs.SiteEquations.{of_set, of_record, of_attr}
use Rattle.schema_syntax_reader.proofs.PlacedWords.{form_word, word_test}
use Rattle.laws_written.specs.Written.{WrittenType, WrittenAttributes, path, set, rec, no_more, attribute}
use Rattle.laws_written.specs.Notes.{SpellNotes}
use Rattle.laws_written.specs.Spellings.{IsIdent, SpellsName, bare, quoted, SpellsPath, one, more, SpellsType}
use Rattle.laws_written.specs.Spellings.{path_type, set_type, record_type, IsRecordOf, braces, AreAttributesOf}
use Rattle.laws_written.specs.Spellings.{no_attribute, last_attribute, more_attributes, IsAttributeOf, required}
use Rattle.laws_written.specs.Spellings.{optional}
use Rattle.laws_written.specs.Shows.{ShowsType, shows_path, shows_set, shows_record, ShowsAttributes, shows_none}
use Rattle.laws_written.specs.Shows.{shows_more}
use Rattle.laws_written.specs.Reads.{IsFaultless}
use Rattle.laws_written.specs.Said.{SaidType, SaidAttributes}
use Rattle.laws_written.specs.Views.{ViewOfType}
use Rattle.laws_written.proofs.Back.{view}
use Rattle.laws_written.proofs.Split.{unbetween, unclosed, no_lexeme}
use Rattle.laws_written.proofs.ReadingNotes.{key_here}

ident_word : (k : TokenKind) → is_ident k ≡ true → is_word_kind k ≡ true
ident_word KwIn h = cc
ident_word KwNamespace h = refl
ident_word KwEntity h = refl
ident_word KwExternal h = refl
ident_word KwType h = refl
ident_word KwSet h = refl
ident_word KwAppliesTo h = refl
ident_word KwPrincipal h = refl
ident_word KwAction h = refl
ident_word KwResource h = refl
ident_word KwContext h = refl
ident_word KwTags h = refl
ident_word KwEnum h = refl
ident_word Identifier h = refl
ident_word _ h = cc

module _ (source : List ℕ) where
  -- a word that an id stands for
  pub ident_back : (t : Token) (x : Lexeme) (i : Id) → IsSpelled source t x → is_ident t.kind ≡ true
      → i.text ≡ word_at source t → IsIdent x × (x.text ≡ i.text)
  ident_back t x i s h e =
      let kind : is_ident x.kind ≡ true = ap is_ident (sym s.0) ∙ h in
      let text : x.text ≡ i.text = sym (key_here source t x s (ident_word x.kind kind)) ∙ sym e in
      (record { ident = kind; id = ap is_id text ∙ i.word }, text)

  pub back_path : {ts ws : List Token} → IsChain PathSep is_ident ts ws → (ids : List Id)
      → AllZip (tree.IsId source) ws ids → (u : List Lexeme) → Spells source ts u → SpellsPath u (texts_of ids)
  back_path (S.one h) [] z u s = absurd z
  back_path (S.one h) (i ∷ j ∷ ids) z u s = absurd z.1
  back_path (S.one h) (i ∷ []) z [] s = absurd s
  back_path (S.one h) (i ∷ []) z (x ∷ y ∷ u) s = absurd s.1
  back_path (S.one {t = t} h) (i ∷ []) z (x ∷ []) s =
      let b = ident_back t x i s.0 h z.0 in
      subst (λ w. SpellsPath (x ∷ []) (w ∷ [])) b.1 (one b.0)
  back_path (S.more h k r) [] z u s = absurd z
  back_path (S.more h k r) (i ∷ ids) z [] s = absurd s
  back_path (S.more h k r) (i ∷ ids) z (x ∷ []) s = absurd s.1
  back_path (S.more {t = t} h k r) (i ∷ ids) z (x ∷ y ∷ u) s =
      let b = ident_back t x i s.0 h z.0 in
      subst (λ w. SpellsPath (x ∷ y ∷ u) (w ∷ texts_of ids)) b.1
      (more b.0 (sym s.1.0.0 ∙ k) (back_path r ids z.1 u s.1.1))

  -- a name that is no string is no reserved word
  word_lawful : (t : Token) → IsFaultless source (word t) → is_reserved (word_at source t) ≡ false
  word_lawful t h = elim (cases_Bool (is_reserved (word_at source t)))
      [ inl e ↦ absurd (h _ _ (reserved t e)) | inr e ↦ e ]

  pub name_back : (t : Token) (x : Lexeme) (k : TokenKind) (n : List ℕ) → t.kind ≡ k → IsSpelled source t x
      → is_name_kind k ≡ true → tree.IsNameOf source k t n → IsFaultless source (site_of_kind k t) → SpellsName x n
  name_back t x StringLit n e s h is f = quoted is.0 (sym s.0 ∙ e) (sym s.1 ∙ is.1) is.2
  name_back t x k n e s h is f =
      let kind : is_ident x.kind ≡ true = ap is_ident (sym s.0 ∙ e) ∙ h in
      let here : word_at source t ≡ x.text = key_here source t x s (ident_word x.kind kind) in
      let lawful : is_reserved x.text ≡ false = ap is_reserved (sym here) ∙ word_lawful t f in
      let id : is_id x.text ≡ true = and_from (words.is_word x.text) (not (is_reserved x.text))
      (word_test x.text (form_word x.text x.kind s.2 (ident_word x.kind kind))) (ap not lawful) in
      subst (λ w. SpellsName x w) (sym here ∙ sym is) (bare (record { ident = kind; id = id }))

  module _ (back_notes : (ts : List Token) (syns : List AnnotationSyntax) (notes : Notes) (u : List Lexeme)
      → AreAnnotations ts syns → AreNotes source syns notes → IsFaultless source (annotations syns)
      → Spells source ts u → SpellNotes u notes) where
    abbrev Faultless : List Site → Type 0
    Faultless sites = All (IsFaultless source) sites

    mark_back : (a : List Lexeme) (x : Lexeme) (m : List Token) (ml : List Lexeme) (y : Lexeme) (v : List Lexeme)
        (ns : Notes) (n : List ℕ) (r : Bool) (t : WrittenType)
        → IsMark m r → Spells source m ml → y.kind ≡ Colon → SpellNotes a ns → SpellsName x n → SpellsType v t
        → IsAttributeOf (a ++ x ∷ (ml ++ y ∷ v)) ns n r t
    mark_back a x m [] y v ns n r t S.no_mark s k w is h = required x y w is k h
    mark_back a x m (z ∷ ml) y v ns n r t S.no_mark s k w is h = absurd s
    mark_back a x m [] y v ns n r t (S.question q) s k w is h = absurd s
    mark_back a x m (z ∷ []) y v ns n r t (S.question q) s k w is h = optional x z y w is (sym s.0.0 ∙ q) k h
    mark_back a x m (z ∷ o ∷ ml) y v ns n r t (S.question q) s k w is h = absurd s.1

    -- an attribute of the tree, and what it shows
    abbrev node_of : AttrSyntax → Node (List ℕ) → Node «Type» → Annotations → Node (Annotated AttrDecl)
    node_of a name ty notes = record {
      node = record {
        item = roll-AttrDecl
            (record { name = name; required = (out-AttrSyntax a).required; ty = ty });
        annotations = notes;
      };
      loc = Some (out-AttrSyntax a).loc;
    }

    show_attr : (a : AttrSyntax) (name : Node (List ℕ)) (ty : Node «Type») (notes : Annotations) (t : WrittenType)
        (zs : List (Node (Annotated AttrDecl))) (w : WrittenAttributes)
        → ShowsType ty.node t → ShowsAttributes zs w
        → ShowsAttributes (node_of a name ty notes ∷ zs) (attribute notes.0 name.node (out-AttrSyntax a).required t w)
    show_attr a name ty notes t zs w h others =
        let decl : AttrDecl-F «Type» AttrDecl = record
        { name = name; required = (out-AttrSyntax a).required; ty = ty } in
        let back : out-AttrDecl (roll-AttrDecl decl) ≡ decl = out-roll-AttrDecl decl in
        shows_more (node_of a name ty notes) (ap (λ (d : AttrDecl-F «Type» AttrDecl). d.name.node) back)
        (ap (λ (d : AttrDecl-F «Type» AttrDecl). d.required) back)
        (subst (λ (d : AttrDecl-F «Type» AttrDecl). ShowsType d.ty.node t) (sym back) h) refl others

    record SaidAttribute (u : List Lexeme) (ns : Notes) (n : List ℕ) (r : Bool) (ty : «Type») : Type 0 where
      written : WrittenType
      spell : IsAttributeOf u ns n r written
      shows : ShowsType ty written

    mutual
      pub back_type : {ts : List Token} {t : TypeSyntax} → IsType ts t → (n : Node «Type») → tree.IsTypeOf source t n
          → Faultless (sites_of_type t) → (u : List Lexeme) → Spells source ts u → SaidType n.node u
      back_type (S.path_type {u = ts} (S.path {names = ws} chain)) n is f u s =
          let p : PathSyntax = record { names = ws; loc = whole_place ts } in
          let v : ViewOfType source (TypeSyntax-F.Path p) n =
          subst (λ (x : TypeSyntax-F TypeSyntax AttrSyntax). ViewOfType source x n)
          (ap out-TypeSyntax (sym (syntax.rolls-Path p)) ∙ out-roll-TypeSyntax (TypeSyntax-F.Path p))
          (view source is) in
          record {
            written = path (texts_of v.0.ids);
            spell = path_type (back_path chain v.0.ids v.2.0 u s);
            shows = subst (λ m. ShowsType m (path (texts_of v.0.ids))) (sym v.1) (shows_path v.0);
          }
      back_type (S.set_type c ks ko h kc) n is f [] s = absurd s
      back_type (S.set_type c ks ko h kc) n is f (x ∷ []) s = absurd s.1
      back_type (S.set_type {s = a} {o = o} c {u = ts} {t = t} ks ko h kc) n is f (x ∷ y ∷ u) s =
          let loc = whole_place (a ∷ o ∷ (ts ++ c ∷ [])) in
          let v : ViewOfType source (TypeSyntax-F.Set t loc) n =
          subst (λ (x : TypeSyntax-F TypeSyntax AttrSyntax). ViewOfType source x n)
          (ap out-TypeSyntax (sym (syntax.rolls-Set t loc)) ∙ out-roll-TypeSyntax (TypeSyntax-F.Set t loc))
          (view source is) in
          let k = unclosed source ts c u s.1.1 in
          let r = back_type h v.0 v.2 (subst Faultless (of_set t loc) f) k.left k.first in
          record {
            written = set r.written;
            spell = subst (λ l. SpellsType (x ∷ y ∷ l) (set r.written)) (sym k.whole)
                (set_type k.lexeme (sym s.0.0 ∙ ks) (sym s.1.0.0 ∙ ko) r.spell (sym k.is.0 ∙ kc));
            shows = subst (λ m. ShowsType m (set r.written)) (sym v.1) (shows_set v.0 r.shows);
          }
      back_type (S.record_type {u = ts} {xs = xs} h) n is f u s =
          let loc = whole_place ts in
          let v : ViewOfType source (TypeSyntax-F.Record xs loc) n =
          subst (λ (x : TypeSyntax-F TypeSyntax AttrSyntax). ViewOfType source x n)
          (ap out-TypeSyntax (sym (syntax.rolls-Record xs loc)) ∙ out-roll-TypeSyntax (TypeSyntax-F.Record xs loc))
          (view source is) in
          let r = back_record h v.0 v.2 (subst Faultless (of_record xs loc) f) u s in
          record {
            written = rec r.written;
            spell = record_type r.spell;
            shows = subst (λ m. ShowsType m (rec r.written)) (sym v.1) (shows_record v.0 r.shows);
          }

      pub back_record : {ts : List Token} {xs : List AttrSyntax} → IsRecord ts xs
          → (ys : List (Node (Annotated AttrDecl))) → tree.AreAttrsOf source xs ys → Faultless (sites_of_attrs xs)
          → (u : List Lexeme) → Spells source ts u → SaidAttributes (IsRecordOf u) ys
      back_record (S.braces c ko h kc) ys are f [] s = absurd s
      back_record (S.braces c {u = ts} ko h kc) ys are f (x ∷ u) s =
          let k = unclosed source ts c u s.1 in
          let r = back_attrs h ys are f k.left k.first in
          record {
            written = r.written;
            spell = subst (λ l. IsRecordOf (x ∷ l) r.written) (sym k.whole)
                (braces k.lexeme (sym s.0.0 ∙ ko) r.spell (sym k.is.0 ∙ kc));
            shows = r.shows;
          }

      back_attrs : {ts : List Token} {xs : List AttrSyntax} → AreAttrs ts xs → (ys : List (Node (Annotated AttrDecl)))
          → tree.AreAttrsOf source xs ys → Faultless (sites_of_attrs xs) → (u : List Lexeme) → Spells source ts u
          → SaidAttributes (AreAttributesOf u) ys
      back_attrs S.no_attr ys tree.none f u s =
          record {
            written = no_more;
            spell = subst (λ l. AreAttributesOf l no_more) (sym (no_lexeme source u s))
                no_attribute;
            shows = shows_none;
          }
      back_attrs (S.last_attr {a = a} h) ys (tree.more name ty notes hn ht hs tree.none) f u s =
          let r = back_attr h name ty notes.0 hn ht hs (All-front (IsFaultless source) (sites_of_attr a) [] f) u s in
          record {
            written = attribute notes.0 name.node (out-AttrSyntax a).required r.written no_more;
            spell = last_attribute r.spell;
            shows = show_attr a name ty notes r.written [] no_more r.shows shows_none;
          }
      back_attrs (S.more_attrs {u = ts} {v = vs} c {a = a} {xs = xs} h k others) ys
          (tree.more {ys = zs} name ty notes hn ht hs rest) f u s =
          let b = unbetween source ts c vs u s in
          let r = back_attr h name ty notes.0 hn ht hs
          (All-front (IsFaultless source) (sites_of_attr a) (sites_of_attrs xs) f) b.left b.first in
          let o = back_attrs others zs rest (All-back (IsFaultless source) (sites_of_attr a) (sites_of_attrs xs) f)
          b.right b.second in
          record {
            written = attribute notes.0 name.node (out-AttrSyntax a).required r.written o.written;
            spell = subst (λ l. AreAttributesOf l
                (attribute notes.0 name.node (out-AttrSyntax a).required r.written o.written)) (sym b.whole)
                (more_attributes b.lexeme r.spell (sym b.is.0 ∙ k) o.spell);
            shows = show_attr a name ty notes r.written zs o.written r.shows o.shows;
          }

      back_attr : {ts : List Token} {a : AttrSyntax} → IsAttr ts a
          → (name : Node (List ℕ)) (ty : Node «Type») (ns : Notes)
          → tree.IsNameNode source (out-AttrSyntax a).name name → tree.IsTypeOf source (out-AttrSyntax a).ty ty
          → AreNotes source (out-AttrSyntax a).annotations ns
          → Faultless (sites_of_attr a) → (u : List Lexeme) → Spells source ts u
          → SaidAttribute u ns name.node (out-AttrSyntax a).required ty.node
      back_attr (S.attr n c {a = as'} {m = m} {u = us} {xs = xs} {required = q} {t = t} ha hk hm kc h) name ty ns hn
          ht hs f u s =
          let loc = whole_place (n ∷ (m ++ c ∷ us)) in
          let w : AttrSyntax-F TypeSyntax AttrSyntax = record
          { annotations = xs; name = n; required = q; ty = t; loc = loc } in
          let out : out-AttrSyntax (roll-AttrSyntax w) ≡ w = out-roll-AttrSyntax w in
          let sites : Faultless (annotations xs ∷ (name_sites n ++ sites_of_type t)) = subst Faultless (of_attr w) f in
          let here : Faultless (name_sites n ++ sites_of_type t) = All-tail (IsFaultless source) (annotations xs)
          (name_sites n ++ sites_of_type t) sites in
          let b = unbetween source as' n (m ++ c ∷ us) u s in
          let d = unbetween source m c us b.right b.second in
          let is_notes : AreNotes source xs ns = subst
          (λ (z : AttrSyntax-F TypeSyntax AttrSyntax). AreNotes source z.annotations ns) out hs in
          let spell_notes = back_notes as' xs ns b.left ha is_notes
          (All-head (IsFaultless source) (annotations xs) (name_sites n ++ sites_of_type t) sites) b.first in
          let is_name_node : tree.IsNameNode source n name = subst
          (λ (z : AttrSyntax-F TypeSyntax AttrSyntax). tree.IsNameNode source z.name name) out hn in
          let spell_name = name_back n b.lexeme n.kind name.node refl b.is hk is_name_node.0
          (All-head (IsFaultless source) (site_of_kind n.kind n) (sites_of_type t) here) in
          let is_type : tree.IsTypeOf source t ty = subst
          (λ (z : AttrSyntax-F TypeSyntax AttrSyntax). tree.IsTypeOf source z.ty ty) out ht in
          let r = back_type h ty is_type
          (All-tail (IsFaultless source) (site_of_kind n.kind n) (sites_of_type t) here) d.right d.second in
          let whole : u ≡ b.left ++ b.lexeme ∷ (d.left ++ d.lexeme ∷ d.right) = b.whole
          ∙ ap (λ l. b.left ++ b.lexeme ∷ l) d.whole in
          let mark : q ≡ (out-AttrSyntax (roll-AttrSyntax w)).required = sym
          (ap (λ (z : AttrSyntax-F TypeSyntax AttrSyntax). z.required) out) in
          record {
            written = r.written;
            spell = subst (λ l. IsAttributeOf l ns name.node (out-AttrSyntax (roll-AttrSyntax w)).required r.written)
                (sym whole)
                (subst (λ p. IsAttributeOf (b.left ++ b.lexeme ∷ (d.left ++ d.lexeme ∷ d.right)) ns name.node p
                r.written) mark
                (mark_back b.left b.lexeme m d.left d.lexeme d.right ns name.node q r.written hm d.first
                (sym d.is.0 ∙ kc) spell_notes spell_name r.spell));
            shows = r.shows;
          }
