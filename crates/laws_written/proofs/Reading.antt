-- Tokens that spell what is written are read as it.
use Rattle.std.proofs.Common.{◌≡◌, ℕ, Bool, true, false, List, [], ◌∷◌, ◌++◌, Some, refl, sym, ap, ◌∙◌, subst}
use Rattle.std.specs.List.{All}
use Rattle.std.proofs.lemmas.List.Elements.{All-nil, All-cons, All-append}
use Rattle.cedar_data.specs.declared.node.Node.{Node}
use Rattle.schema_syntax_grammar.specs.declared.token_kind.TokenKind.TheVariants.{KwSet, Comma, Colon, PathSep, LBrace}
use Rattle.schema_syntax_grammar.specs.declared.token_kind.TokenKind.TheVariants.{RBrace, Less, Greater}
use Rattle.schema_syntax_tokens.specs.declared.token.Token.{Token}
use Rattle.schema_syntax_tokens.specs.Escapes.{Unescapes, BadEscape}
use Rattle.schema_syntax_tokens.specs.Laid.{Lexeme, IsSpelled, Spells}
use Rattle.schema_syntax_tokens.specs.TokenLists.{whole_place}
use Rattle.schema_syntax_parser.specs.declared.syntax.TypeSyntax.TheVariants as syntax
use Rattle.schema_syntax_parser.specs.declared.syntax.TypeSyntax.{TypeSyntax}
use Rattle.schema_syntax_parser.specs.declared.syntax.AttrSyntax.{AttrSyntax, roll-AttrSyntax, out-AttrSyntax}
use Rattle.schema_syntax_parser.specs.declared.syntax.AttrSyntax.{out-roll-AttrSyntax}
use Rattle.schema_syntax_parser.specs.declared.syntax.TypeSyntax.TheOpen.{AttrSyntax-F}
use Rattle.schema_syntax_parser.specs.Syntax.{IsRecord, AreAttrs, IsMark}
use Rattle.schema_syntax_parser.specs.Syntax as S
use Rattle.schema_syntax_tree.specs.declared.types.Type.{«Type»}
use Rattle.schema_syntax_tree.specs.declared.types.Type.TheVariants as shape
use Rattle.schema_syntax_tree.specs.declared.types.AttrDecl.{AttrDecl, roll-AttrDecl, out-AttrDecl, out-roll-AttrDecl}
use Rattle.schema_syntax_tree.specs.declared.types.Type.TheOpen.{AttrDecl-F}
use Rattle.schema_syntax_reader.specs.Sites.{annotations, name_sites, names_sites, sites_of_type, sites_of_attr}
use Rattle.schema_syntax_reader.specs.Sites.{sites_of_attrs}
use Rattle.schema_syntax_reader.specs.Leaves.{Notes, AreNotes}
use Rattle.schema_syntax_reader.specs.Trees as tree
use Rattle.schema_syntax_reader.proofs.SiteEquations.{of_path, of_set, of_record, of_attr}
use Rattle.laws_written.specs.Written.{WrittenType, WrittenAttributes, path, set, rec, no_more, attribute}
use Rattle.laws_written.specs.Spellings.{IsIdent, SpellsName, SpellsPath, one, more, SpellsType, path_type, set_type}
use Rattle.laws_written.specs.Spellings.{record_type, IsRecordOf, braces, AreAttributesOf, no_attribute}
use Rattle.laws_written.specs.Spellings.{last_attribute, more_attributes, IsAttributeOf, required, optional}
use Rattle.laws_written.specs.Shows.{ShowsType, shows_path, shows_set, shows_record, shows_none, shows_more}
use Rattle.laws_written.specs.Reads.{IsFaultless, ReadsPath, ReadsType, ReadsAttributes, ReadsAttribute, ReadsNotes}
use Rattle.laws_written.proofs.ReadingNotes.{read_notes}
use Rattle.laws_written.proofs.Split.{closed, between, front}
use Rattle.laws_written.proofs.Words.{word_here, ident_kind, ident_site, name_kind, name_here, name_site}

module _ (source : List ℕ) where
  -- paths
  path_one : (t : Token) (x : Lexeme) → IsSpelled source t x → IsIdent x → ReadsPath source (t ∷ []) (x.text ∷ [])
  path_one t x s i =
      record {
        words = t ∷ [];
        parsed = S.one (ident_kind source t x s i);
        ids = record { text = x.text; word = i.id } ∷ [];
        are = (word_here source t x s i.id, tt);
        says = refl;
        lawful = All-append (IsFaultless source) (name_sites t) [] (ident_site source t x s i)
            (All-nil (IsFaultless source));
      }

  path_more : (t c : Token) (ts : List Token) (x : Lexeme) (names : List (List ℕ)) → IsSpelled source t x → IsIdent x
      → c.kind ≡ PathSep → ReadsPath source ts names → ReadsPath source (t ∷ c ∷ ts) (x.text ∷ names)
  path_more t c ts x names s i k r =
      record {
        words = t ∷ r.words;
        parsed = S.more (ident_kind source t x s i) k r.parsed;
        ids = record { text = x.text; word = i.id } ∷ r.ids;
        are = (word_here source t x s i.id, r.are);
        says = ap (λ l. x.text ∷ l) r.says;
        lawful = All-append (IsFaultless source) (name_sites t) (names_sites r.words)
            (ident_site source t x s i) r.lawful;
      }

  pub read_path : {u : List Lexeme} {p : List (List ℕ)} → SpellsPath u p → (ts : List Token) → Spells source ts u
      → ReadsPath source ts p
  read_path (one {x = x} i) [] s = absurd s
  read_path (one {x = x} i) (t ∷ []) s = path_one t x s.0 i
  read_path (one {x = x} i) (t ∷ c ∷ ts) s = absurd s.1
  read_path (more i k r) [] s = absurd s
  read_path (more i k r) (t ∷ []) s = absurd s.1
  read_path (more {x = x} {names = names} i k r) (t ∷ c ∷ ts) s =
      path_more t c ts x names s.0 i (s.1.0.0 ∙ k) (read_path r ts s.1.1)

  -- types, from their parts
  path_read : (ts : List Token) (p : List (List ℕ)) → ReadsPath source ts p → ReadsType source ts (path p)
  path_read ts p r =
      let loc = whole_place ts in
      subst (λ p. ReadsType source ts (path p)) r.says
      (record {
        syn = syntax.Path (record { names = r.words; loc = loc });
        parsed = S.path_type (S.path r.parsed);
        node = record { node = shape.Ident (record { ids = r.ids; loc = Some loc }); loc = Some loc };
        is = tree.path (r.are, refl);
        shows = shows_path (record { ids = r.ids; loc = Some loc });
        lawful = subst (All (IsFaultless source)) (sym (of_path (record { names = r.words; loc = loc }))) r.lawful;
      })

  set_read : (s o : Token) (u : List Token) (c : Token) (t : WrittenType) → s.kind ≡ KwSet → o.kind ≡ Less
      → ReadsType source u t → c.kind ≡ Greater → ReadsType source (s ∷ o ∷ (u ++ c ∷ [])) (set t)
  set_read s o u c t hs ho r hc =
      let loc = whole_place (s ∷ o ∷ (u ++ c ∷ [])) in
      record {
        syn = syntax.Set r.syn loc;
        parsed = S.set_type c hs ho r.parsed hc;
        node = record { node = shape.Set r.node; loc = Some loc };
        is = tree.set loc r.is;
        shows = shows_set r.node r.shows;
        lawful = subst (All (IsFaultless source)) (sym (of_set r.syn loc)) r.lawful;
      }

  record_read : (ts : List Token) (xs : WrittenAttributes) → ReadsAttributes source (IsRecord ts) xs
      → ReadsType source ts (rec xs)
  record_read ts xs r =
      let loc = whole_place ts in
      record {
        syn = syntax.Record r.syns loc;
        parsed = S.record_type r.parsed;
        node = record { node = shape.Record r.nodes; loc = Some loc };
        is = tree.attributes loc r.are;
        shows = shows_record r.nodes r.shows;
        lawful = subst (All (IsFaultless source)) (sym (of_record r.syns loc)) r.lawful;
      }

  braces_read : (o : Token) (u : List Token) (c : Token) (xs : WrittenAttributes) → o.kind ≡ LBrace
      → ReadsAttributes source (AreAttrs u) xs → c.kind ≡ RBrace
      → ReadsAttributes source (IsRecord (o ∷ (u ++ c ∷ []))) xs
  braces_read o u c xs ho r hc =
      record {
        syns = r.syns;
        parsed = S.braces c ho r.parsed hc;
        nodes = r.nodes;
        are = r.are;
        shows = r.shows;
        lawful = r.lawful;
      }

  none_read : ReadsAttributes source (AreAttrs []) no_more
  none_read = record {
    syns = [];
    parsed = S.no_attr;
    nodes = [];
    are = tree.none;
    shows = shows_none;
    lawful = All-nil (IsFaultless source);
  }

  last_read : (u : List Token) (ns : Notes) (n : List ℕ) (q : Bool) (t : WrittenType)
      → ReadsAttribute source u ns n q t → ReadsAttributes source (AreAttrs u) (attribute ns n q t no_more)
  last_read u ns n q t r =
      record {
        syns = r.syn ∷ [];
        parsed = S.last_attr r.parsed;
        nodes = r.node ∷ [];
        are = r.are [] [] tree.none;
        shows = r.shows [] no_more shows_none;
        lawful = All-append (IsFaultless source) (sites_of_attr r.syn) [] r.lawful (All-nil (IsFaultless source));
      }

  more_read : (u : List Token) (c : Token) (v : List Token) (ns : Notes) (n : List ℕ) (q : Bool) (t : WrittenType)
      (xs : WrittenAttributes)
      → ReadsAttribute source u ns n q t → c.kind ≡ Comma → ReadsAttributes source (AreAttrs v) xs
      → ReadsAttributes source (AreAttrs (u ++ c ∷ v)) (attribute ns n q t xs)
  more_read u c v ns n q t xs a k r =
      record {
        syns = a.syn ∷ r.syns;
        parsed = S.more_attrs c a.parsed k r.parsed;
        nodes = a.node ∷ r.nodes;
        are = a.are r.syns r.nodes r.are;
        shows = a.shows r.nodes xs r.shows;
        lawful = All-append (IsFaultless source) (sites_of_attr a.syn) (sites_of_attrs r.syns) a.lawful r.lawful;
      }

  module _ (never_both : (body value : List ℕ) (at : ℕ) → Unescapes body value → BadEscape body at → ⊥) where
    attribute_read : (a : List Token) (x : Token) (m : List Token) (c : Token) (u : List Token) (l : Lexeme)
        (ns : Notes) (n : List ℕ) (q : Bool) (t : WrittenType)
        → ReadsNotes source a ns → IsSpelled source x l → SpellsName l n → IsMark m q → c.kind ≡ Colon
        → ReadsType source u t
        → ReadsAttribute source (a ++ x ∷ (m ++ c ∷ u)) ns n q t
    attribute_read a x m c u l ns n q t notes s is mark hc r =
        let loc = whole_place (x ∷ (m ++ c ∷ u)) in
        let name : Node (List ℕ) = record { node = n; loc = Some x.loc } in
        let written : AttrSyntax-F TypeSyntax AttrSyntax = record
        { annotations = notes.syns; name = x; required = q; ty = r.syn; loc = loc } in
        let syn : AttrSyntax = roll-AttrSyntax written in
        let out : out-AttrSyntax syn ≡ written = out-roll-AttrSyntax written in
        let decl : AttrDecl-F «Type» AttrDecl = record
        { name = name; required = (out-AttrSyntax syn).required; ty = r.node } in
        let back : out-AttrDecl (roll-AttrDecl decl) ≡ decl = out-roll-AttrDecl decl in
        record {
          syn = syn;
          parsed = S.attr x c notes.parsed (name_kind source x l n s is) mark hc r.parsed;
          node = record {
            node = record { item = roll-AttrDecl decl; annotations = record { 0 = ns } };
            loc = Some (out-AttrSyntax syn).loc;
          };
          are = λ syns nodes are. tree.more name r.node (record { 0 = ns })
              (subst (λ (w : AttrSyntax-F TypeSyntax AttrSyntax). tree.IsNameNode source w.name name) (sym out)
              (name_here source x l n s is, refl))
              (subst (λ (w : AttrSyntax-F TypeSyntax AttrSyntax). tree.IsTypeOf source w.ty r.node) (sym out) r.is)
              (subst (λ (w : AttrSyntax-F TypeSyntax AttrSyntax). AreNotes source w.annotations ns) (sym out) notes.are)
              are;
          shows = λ nodes xs shows. shows_more
              (record {
                node = record { item = roll-AttrDecl decl; annotations = record { 0 = ns } };
                loc = Some (out-AttrSyntax syn).loc;
              })
              (ap (λ (d : AttrDecl-F «Type» AttrDecl). d.name.node) back)
              (ap (λ (d : AttrDecl-F «Type» AttrDecl). d.required) back
              ∙ ap (λ (w : AttrSyntax-F TypeSyntax AttrSyntax). w.required) out)
              (subst (λ (d : AttrDecl-F «Type» AttrDecl). ShowsType d.ty.node t) (sym back) r.shows)
              refl shows;
          lawful = subst (All (IsFaultless source)) (sym (of_attr written))
              (All-cons (IsFaultless source) (annotations notes.syns) (name_sites x ++ sites_of_type r.syn) notes.lawful
              (All-append (IsFaultless source) (name_sites x) (sites_of_type r.syn)
              (name_site source never_both x l n s is) r.lawful));
        }

    mutual
      pub read_type : {u : List Lexeme} {t : WrittenType} → SpellsType u t → (ts : List Token) → Spells source ts u
          → ReadsType source ts t
      read_type (path_type {p = p} h) ts s = path_read ts p (read_path h ts s)
      read_type (set_type c hs ho h hc) [] s = absurd s
      read_type (set_type c hs ho h hc) (a ∷ []) s = absurd s.1
      read_type (set_type c {u = u} {t = t} hs ho h hc) (a ∷ b ∷ ts) s =
          let k = closed source u c ts s.1.1 in
          subst (λ l. ReadsType source (a ∷ b ∷ l) (set t)) (sym k.whole)
          (set_read a b k.left k.token t (s.0.0 ∙ hs) (s.1.0.0 ∙ ho) (read_type h k.left k.first) (k.is.0 ∙ hc))
      read_type (record_type {xs = xs} h) ts s = record_read ts xs (read_record h ts s)

      pub read_record : {u : List Lexeme} {xs : WrittenAttributes} → IsRecordOf u xs → (ts : List Token)
          → Spells source ts u → ReadsAttributes source (IsRecord ts) xs
      read_record (braces c ho h hc) [] s = absurd s
      read_record (braces c {u = u} {xs = xs} ho h hc) (a ∷ ts) s =
          let k = closed source u c ts s.1 in
          subst (λ l. ReadsAttributes source (IsRecord (a ∷ l)) xs) (sym k.whole)
          (braces_read a k.left k.token xs (s.0.0 ∙ ho) (read_attributes h k.left k.first) (k.is.0 ∙ hc))

      read_attributes : {u : List Lexeme} {xs : WrittenAttributes} → AreAttributesOf u xs → (ts : List Token)
          → Spells source ts u → ReadsAttributes source (AreAttrs ts) xs
      read_attributes no_attribute [] s = none_read
      read_attributes no_attribute (t ∷ ts) s = absurd s
      read_attributes (last_attribute {ns = ns} {n = n} {r = r} {t = t} h) ts s =
          last_read ts ns n r t (read_attribute h ts s)
      read_attributes (more_attributes {u = u} {v = v} c {ns = ns} {n = n} {r = r} {t = t} {xs = xs} h k others) ts s =
          let b = between source u v c ts s in
          subst (λ l. ReadsAttributes source (AreAttrs l) (attribute ns n r t xs)) (sym b.whole)
          (more_read b.left b.token b.right ns n r t xs (read_attribute h b.left b.first) (b.is.0 ∙ k)
          (read_attributes others b.right b.second))

      read_attribute : {u : List Lexeme} {ns : Notes} {n : List ℕ} {r : Bool} {t : WrittenType}
          → IsAttributeOf u ns n r t → (ts : List Token) → Spells source ts u → ReadsAttribute source ts ns n r t
      read_attribute (required {a = a} x c {u = u} {ns = ns} {n = n} {t = t} w is k h) ts s =
          let b = between source a (c ∷ u) x ts s in
          let f = front source c u b.right b.second in
          subst (λ l. ReadsAttribute source l ns n true t) (sym (b.whole ∙ ap (λ l. b.left ++ b.token ∷ l) f.whole))
          (attribute_read b.left b.token [] f.token f.right x ns n true t
          (read_notes source never_both w.spell w.arranged b.left b.first) b.is is S.no_mark (f.is.0 ∙ k)
          (read_type h f.right f.second))
      read_attribute (optional {a = a} x q c {u = u} {ns = ns} {n = n} {t = t} w is kq k h) ts s =
          let b = between source a (q ∷ c ∷ u) x ts s in
          let g = front source q (c ∷ u) b.right b.second in
          let f = front source c u g.right g.second in
          subst (λ l. ReadsAttribute source l ns n false t)
          (sym (b.whole ∙ ap (λ l. b.left ++ b.token ∷ l) (g.whole ∙ ap (λ l. g.token ∷ l) f.whole)))
          (attribute_read b.left b.token (g.token ∷ []) f.token f.right x ns n false t
          (read_notes source never_both w.spell w.arranged b.left b.first) b.is is (S.question (g.is.0 ∙ kq))
          (f.is.0 ∙ k) (read_type h f.right f.second))
