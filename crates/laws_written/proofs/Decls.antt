-- Tokens that spell declarations are read as them.
use Rattle.std.proofs.Common.{◌≡◌, ℕ, List, [], ◌∷◌, ◌++◌, Option, Some, None, refl, sym, ap, ◌∙◌, subst}
use Rattle.std.specs.List.{All, AllZip, flat_map}
use Rattle.std.proofs.lemmas.Grind.{flat_map-append}
use Rattle.std.proofs.lemmas.List.Elements.{All-nil, All-cons, All-append}
use Rattle.cedar_data.specs.Span.{Span}
use Rattle.cedar_data.specs.declared.node.Node.{Node}
use Rattle.cedar_identifiers.specs.declared.id.Id.{Id}
use Rattle.schema_syntax_grammar.specs.declared.token_kind.TokenKind.TheVariants.{KwNamespace, KwEntity, KwExternal}
use Rattle.schema_syntax_grammar.specs.declared.token_kind.TokenKind.TheVariants.{KwType, KwAction, KwEnum, StringLit}
use Rattle.schema_syntax_grammar.specs.declared.token_kind.TokenKind.TheVariants.{Comma, Semi, PathSep, LBrace, RBrace}
use Rattle.schema_syntax_grammar.specs.declared.token_kind.TokenKind.TheVariants.{LBracket, RBracket, Equals}
use Rattle.schema_syntax_grammar.specs.Grammar.{is_ident}
use Rattle.schema_syntax_tokens.specs.declared.token.Token.{Token}
use Rattle.schema_syntax_tokens.specs.Escapes.{Unescapes, BadEscape}
use Rattle.schema_syntax_tokens.specs.Laid.{Lexeme, IsSpelled, Spells}
use Rattle.schema_syntax_parser.specs.declared.syntax.AppSyntax.{AppSyntax}
use Rattle.schema_syntax_parser.specs.declared.syntax.AppSyntax.TheVariants as app_syntax
use Rattle.schema_syntax_parser.specs.declared.syntax.DeclSyntax.TheVariants as decl_syntax
use Rattle.schema_syntax_parser.specs.declared.syntax.ItemSyntax.TheVariants as item_syntax
use Rattle.schema_syntax_parser.specs.Syntax.{IsChain, IsPath, IsRef, AreParents}
use Rattle.schema_syntax_parser.specs.Syntax.{AreSeparated, AreMany, IsApp, IsDeclared, IsItem}
use Rattle.schema_syntax_parser.specs.Syntax.{is_role}
use Rattle.schema_syntax_parser.specs.Syntax.{IsStringToken}
use Rattle.schema_syntax_tokens.specs.TokenLists.{whole_place}
use Rattle.schema_syntax_parser.specs.Syntax as S
use Rattle.schema_syntax_tree.specs.declared.path.Path.{Path}
use Rattle.schema_syntax_tree.specs.declared.annotated.Annotated.{Annotated}
use Rattle.schema_syntax_tree.specs.declared.types.AttrDecl.{AttrDecl}
use Rattle.schema_syntax_tree.specs.declared.qual_name.QualName.{QualName}
use Rattle.schema_syntax_tree.specs.declared.app_decl.PRAppDecl.{PRAppDecl}
use Rattle.schema_syntax_tree.specs.declared.app_decl.AppDecl.{AppDecl}
use Rattle.schema_syntax_tree.specs.declared.app_decl.AppDecl.TheVariants as app
use Rattle.schema_syntax_tree.specs.declared.either.Either.TheVariants.{Left, Right}
use Rattle.schema_syntax_tree.specs.declared.declaration.Declaration.{Declaration}
use Rattle.schema_syntax_tree.specs.declared.declaration.Declaration.TheVariants as declaration
use Rattle.schema_syntax_tree.specs.declared.entity_decl.EntityDecl.TheVariants as entity_decl
use Rattle.schema_syntax_tree.specs.declared.entity_decl.StandardEntityDecl.{StandardEntityDecl}
use Rattle.schema_syntax_tree.specs.declared.entity_decl.EnumEntityDecl.{EnumEntityDecl}
use Rattle.schema_syntax_tree.specs.declared.entity_decl.ExternalEntityDecl.{ExternalEntityDecl}
use Rattle.schema_syntax_tree.specs.declared.action_decl.ActionDecl.TheVariants as action_decl
use Rattle.schema_syntax_tree.specs.declared.action_decl.DefinedActionDecl.{DefinedActionDecl}
use Rattle.schema_syntax_tree.specs.declared.action_decl.ExternalActionDecl.{ExternalActionDecl}
use Rattle.schema_syntax_tree.specs.declared.type_decl.TypeDecl.{TypeDecl}
use Rattle.schema_syntax_tree.specs.declared.namespace.Namespace.{Namespace}
use Rattle.schema_syntax_reader.specs.Sites.{annotations, name_sites, names_sites, path_sites, paths_sites}
use Rattle.schema_syntax_reader.specs.Sites.{sites_of_type, shape_sites, tags_sites, app_sites, apps_sites}
use Rattle.schema_syntax_reader.specs.Sites.{choices_sites, applies_sites, decl_sites, declared_sites, item_sites}
use Rattle.schema_syntax_reader.specs.Trees.{role_of}
use Rattle.schema_syntax_reader.specs.Trees as tree
use Rattle.laws_written.specs.Written.{WrittenType, WrittenAttributes, WrittenRef, WrittenMember, WrittenDecl}
use Rattle.laws_written.specs.Written.{entity, enum, external_entity, action, external_action, common}
use Rattle.laws_written.specs.Written.{WrittenDeclared, WrittenItem, namespace}
use Rattle.laws_written.specs.Spellings.{IsIdent, SpellsName, quoted, IsChainOf, one, more, AreParentsOf, AreNamesOf}
use Rattle.laws_written.specs.Spellings.{one_name, more_names, SpellsPath, IsStringOf, a_string, SpellsRef}
use Rattle.laws_written.specs.Spellings.{plain_ref, typed_ref, SpellsShape, no_shape, bare_shape, equals_shape}
use Rattle.laws_written.specs.Spellings.{SpellTags, no_tags, some_tags, IsMemberOf, types_of, path_context}
use Rattle.laws_written.specs.Spellings.{record_context, SpellsApplies, no_applies, some_applies, SpellsDecl}
use Rattle.laws_written.specs.Spellings.{entity_of, enum_of, external_entity_of, action_of, external_action_of}
use Rattle.laws_written.specs.Spellings.{common_of, SpellsDeclared, declared_of, SpellsItem, namespace_of}
use Rattle.laws_written.specs.Spellings.{outside_of, SpellsSchema}
use Rattle.laws_written.specs.Shows.{shows_none, SaysPath, SaysChoice, SaysRef, SaysMember, SaysDeclared, SaysItem}
use Rattle.laws_written.specs.Reads.{IsFaultless, ReadsPath, ReadsType, ReadsNotes, ReadsAll, ReadsOnePath}
use Rattle.laws_written.specs.Reads.{ReadsOneRef, ReadsOneString, ReadsIdents, ReadsNames, ReadsShape, ReadsTags}
use Rattle.laws_written.specs.Reads.{ReadsMember, ReadsApplies, ReadsDecl, ReadsDeclared, ReadsItem, ReadsSchema}
use Rattle.laws_written.proofs.Split.{split, closed, between, alone, front}
use Rattle.laws_written.proofs.Words.{word_here, ident_kind, ident_site, name_kind, name_here, name_site}
use Rattle.laws_written.proofs.Words.{string_site}
use Rattle.laws_written.proofs.Reading.{read_path, read_type, read_record}
use Rattle.laws_written.proofs.ReadingNotes.{read_notes}
use Rattle.schema_syntax_reader.specs.Leaves.{Notes}
use Rattle.laws_written.proofs.Lists.{separated, listed, many, parents, optional}

module _ (source : List ℕ) where
  nothing : All (IsFaultless source) []
  nothing = All-nil (IsFaultless source)

  one_path : (u : List Lexeme) (p : List (List ℕ)) → SpellsPath u p → (ts : List Token) → Spells source ts u
      → ReadsOnePath source ts p
  one_path u p h ts s =
      let r = read_path source h ts s in
      record {
        syn = record { names = r.words; loc = whole_place ts };
        parsed = S.path r.parsed;
        node = record { ids = r.ids; loc = Some (whole_place ts) };
        is = (r.are, refl);
        says = r.says;
        lawful = r.lawful;
      }

  -- declared names
  ident_first : (t : Token) (x : Lexeme) → IsSpelled source t x → IsIdent x
      → ReadsIdents source (t ∷ []) (x.text ∷ [])
  ident_first t x s i =
      record {
        syns = t ∷ [];
        parsed = S.one (ident_kind source t x s i);
        nodes = record { node = record { text = x.text; word = i.id }; loc = Some t.loc } ∷ [];
        are = ((word_here source t x s i.id, refl), tt);
        says = (refl, tt);
        lawful = All-append (IsFaultless source) (name_sites t) [] (ident_site source t x s i) nothing;
      }

  ident_more : (t c : Token) (ts : List Token) (x : Lexeme) (names : List (List ℕ)) → IsSpelled source t x → IsIdent x
      → c.kind ≡ Comma → ReadsIdents source ts names → ReadsIdents source (t ∷ c ∷ ts) (x.text ∷ names)
  ident_more t c ts x names s i k r =
      record {
        syns = t ∷ r.syns;
        parsed = S.more (ident_kind source t x s i) k r.parsed;
        nodes = record { node = record { text = x.text; word = i.id }; loc = Some t.loc } ∷ r.nodes;
        are = ((word_here source t x s i.id, refl), r.are);
        says = (refl, r.says);
        lawful = All-append (IsFaultless source) (name_sites t) (names_sites r.syns)
            (ident_site source t x s i) r.lawful;
      }

  read_idents : {u : List Lexeme} {names : List (List ℕ)} → IsChainOf Comma u names → (ts : List Token)
      → Spells source ts u → ReadsIdents source ts names
  read_idents (one i) [] s = absurd s
  read_idents (one {x = x} i) (t ∷ []) s = ident_first t x s.0 i
  read_idents (one i) (t ∷ c ∷ ts) s = absurd s.1
  read_idents (more i k r) [] s = absurd s
  read_idents (more i k r) (t ∷ []) s = absurd s.1
  read_idents (more {x = x} {names = names} i k r) (t ∷ c ∷ ts) s =
      ident_more t c ts x names s.0 i (s.1.0.0 ∙ k) (read_idents r ts s.1.1)

  module _ (never_both : (body value : List ℕ) (at : ℕ) → Unescapes body value → BadEscape body at → ⊥) where
    name_first : (t : Token) (x : Lexeme) (n : List ℕ) → IsSpelled source t x → SpellsName x n
        → ReadsNames source (t ∷ []) (n ∷ [])
    name_first t x n s i =
        record {
          syns = t ∷ [];
          parsed = S.one (name_kind source t x n s i);
          nodes = record { node = n; loc = Some t.loc } ∷ [];
          are = ((name_here source t x n s i, refl), tt);
          says = (refl, tt);
          lawful = All-append (IsFaultless source) (name_sites t) [] (name_site source never_both t x n s i) nothing;
        }

    name_more : (t c : Token) (ts : List Token) (x : Lexeme) (n : List ℕ) (names : List (List ℕ))
        → IsSpelled source t x → SpellsName x n → c.kind ≡ Comma → ReadsNames source ts names
        → ReadsNames source (t ∷ c ∷ ts) (n ∷ names)
    name_more t c ts x n names s i k r =
        record {
          syns = t ∷ r.syns;
          parsed = S.more (name_kind source t x n s i) k r.parsed;
          nodes = record { node = n; loc = Some t.loc } ∷ r.nodes;
          are = ((name_here source t x n s i, refl), r.are);
          says = (refl, r.says);
          lawful = All-append (IsFaultless source) (name_sites t) (names_sites r.syns)
              (name_site source never_both t x n s i) r.lawful;
        }

    read_names : {u : List Lexeme} {names : List (List ℕ)} → AreNamesOf u names → (ts : List Token)
        → Spells source ts u → ReadsNames source ts names
    read_names (one_name i) [] s = absurd s
    read_names (one_name {x = x} {n = n} i) (t ∷ []) s = name_first t x n s.0 i
    read_names (one_name i) (t ∷ c ∷ ts) s = absurd s.1
    read_names (more_names i k r) [] s = absurd s
    read_names (more_names i k r) (t ∷ []) s = absurd s.1
    read_names (more_names {x = x} {n = n} {names = names} i k r) (t ∷ c ∷ ts) s =
        name_more t c ts x n names s.0 i (s.1.0.0 ∙ k) (read_names r ts s.1.1)

    one_string : (u : List Lexeme) (value : List ℕ) → IsStringOf u value → (ts : List Token) → Spells source ts u
        → ReadsOneString source ts value
    one_string u value (a_string {x = x} body k e h) [] s = absurd s
    one_string u value (a_string {x = x} body k e h) (t ∷ []) s =
        record {
          syn = t;
          parsed = S.string (s.0.0 ∙ k);
          node = record { node = value; loc = Some t.loc };
          is = ((body, s.0.1 ∙ e, h), refl);
          says = refl;
          lawful = string_site source never_both t x body value s.0 k e h;
        }
    one_string u value (a_string {x = x} body k e h) (t ∷ c ∷ ts) s = absurd s.1

    -- references to actions
    type_of_ref : (ts words : List Token) (ids : List Id) → IsChain PathSep is_ident ts words
        → AllZip (tree.IsId source) words ids
        → tree.IsTypeOfRef source words (Some (record { ids = ids; loc = Some (whole_place words) }))
    type_of_ref ts words ids (S.one h) are = (are, refl)
    type_of_ref ts words ids (S.more h k r) are = (are, refl)

    typed_read : (ts : List Token) (c t : Token) (q : Lexeme) (names : List (List ℕ)) (body value : List ℕ)
        → ReadsPath source ts names → c.kind ≡ PathSep → IsSpelled source t q → q.kind ≡ StringLit
        → q.text ≡ 34 ∷ (body ++ 34 ∷ []) → Unescapes body value
        → ReadsOneRef source (ts ++ c ∷ t ∷ []) (record { ty = Some names; id = value })
    typed_read ts c t q names body value r k s kq e un =
        let loc = whole_place (ts ++ c ∷ t ∷ []) in
        let p : Path = record { ids = r.ids; loc = Some (whole_place r.words) } in
        let name : QualName = record { path = Some p; eid = value } in
        record {
          syn = record { names = r.words ++ t ∷ []; loc = loc };
          parsed = S.typed c t r.parsed k (s.0 ∙ kq);
          node = record { node = name; loc = Some loc };
          is = (
            r.words,
            t,
            refl,
            name_here source t q value s (quoted body kq e un),
            type_of_ref ts r.words r.ids
                r.parsed r.are,
            refl,
          );
          says = (r.says, refl);
          lawful = subst (All (IsFaultless source)) (sym (flat_map-append name_sites r.words (t ∷ [])))
              (All-append (IsFaultless source) (names_sites r.words) (names_sites (t ∷ [])) r.lawful
              (All-append (IsFaultless source) (name_sites t) []
              (string_site source never_both t q body value s kq e un) nothing));
        }

    pub one_ref : (u : List Lexeme) (r : WrittenRef) → SpellsRef u r → (ts : List Token) → Spells source ts u
        → ReadsOneRef source ts r
    one_ref u r (plain_ref {x = x} {n = n} i) [] s = absurd s
    one_ref u r (plain_ref {x = x} {n = n} i) (t ∷ []) s =
        let name : QualName = record { path = None; eid = n } in
        record {
          syn = record { names = t ∷ []; loc = whole_place (t ∷ []) };
          parsed = S.plain (name_kind source t x n s.0 i);
          node = record { node = name; loc = Some (whole_place (t ∷ [])) };
          is = ([], t, refl, name_here source t x n s.0 i, refl, refl);
          says = (tt, refl);
          lawful = All-append (IsFaultless source) (name_sites t) [] (name_site source never_both t x n s.0 i) nothing;
        }
    one_ref u r (plain_ref {x = x} {n = n} i) (t ∷ c ∷ ts) s = absurd s.1
    one_ref u r (typed_ref {u = p} c q body {names = names} {value = value} h k kq e un) ts s =
        let b = between source p (q ∷ []) c ts s in
        let last = alone source q b.right b.second in
        let whole : ts ≡ b.left ++ b.token ∷ last.token ∷ [] = b.whole ∙ ap (λ l. b.left ++ b.token ∷ l) last.whole in
        subst (λ l. ReadsOneRef source l (record { ty = Some names; id = value })) (sym whole)
        (typed_read b.left b.token last.token q names body value (read_path source h b.left b.first) (b.is.0 ∙ k)
        last.is kq e un)

    -- attributes and tags
    no_attributes : (u : List Lexeme) (xs : WrittenAttributes) → SpellsShape u xs → (ts : List Token)
        → Spells source ts u → ReadsShape source ts xs
    no_attributes u xs no_shape [] s =
        record {
          syn = None;
          parsed = S.no_shape;
          node = record { node = []; loc = None };
          is = (refl, refl);
          says = shows_none;
          lawful = nothing;
        }
    no_attributes u xs no_shape (t ∷ ts) s = absurd s
    no_attributes u xs (bare_shape h) ts s =
        let r = read_record source never_both h ts s in
        let loc = whole_place ts in
        record {
          syn = Some (r.syns, loc);
          parsed = S.bare_shape r.parsed;
          node = record { node = r.nodes; loc = Some loc };
          is = (r.are, refl);
          says = r.shows;
          lawful = r.lawful;
        }
    no_attributes u xs (equals_shape k h) [] s = absurd s
    no_attributes u xs (equals_shape k h) (e ∷ ts) s =
        let r = read_record source never_both h ts s.1 in
        let loc = whole_place ts in
        record {
          syn = Some (r.syns, loc);
          parsed = S.equals_shape (s.0.0 ∙ k) r.parsed;
          node = record { node = r.nodes; loc = Some loc };
          is = (r.are, refl);
          says = r.shows;
          lawful = r.lawful;
        }

    read_tags : (u : List Lexeme) (t : Option WrittenType) → SpellTags u t → (ts : List Token) → Spells source ts u
        → ReadsTags source ts t
    read_tags u t no_tags [] s = record
        { syn = None; parsed = S.no_tags; node = None; is = refl; says = tt; lawful = nothing }
    read_tags u t no_tags (x ∷ ts) s = absurd s
    read_tags u t (some_tags k h) [] s = absurd s
    read_tags u t (some_tags k h) (w ∷ ts) s =
        let r = read_type source never_both h ts s.1 in
        record {
          syn = Some r.syn;
          parsed = S.some_tags (s.0.0 ∙ k) r.parsed;
          node = Some r.node;
          is = r.is;
          says = r.shows;
          lawful = r.lawful;
        }

    read_parents : {u : List Lexeme} {ps : List (List (List ℕ))} → AreParentsOf SpellsPath u ps → (ts : List Token)
        → Spells source ts u → ReadsAll source (AreParents IsPath ts) (tree.IsPathOf source) SaysPath path_sites ps
    read_parents = parents source SpellsPath IsPath (tree.IsPathOf source) SaysPath path_sites one_path

    read_refs : {u : List Lexeme} {rs : List WrittenRef} → AreParentsOf SpellsRef u rs → (ts : List Token)
        → Spells source ts u → ReadsAll source (AreParents IsRef ts) (tree.IsRefOf source) SaysRef path_sites rs
    read_refs = parents source SpellsRef IsRef (tree.IsRefOf source) SaysRef path_sites one_ref

    -- members of an `appliesTo` block
    one_member : (u : List Lexeme) (m : WrittenMember) → IsMemberOf u m → (ts : List Token) → Spells source ts u
        → ReadsMember source ts m
    one_member u m (types_of {ps = ps} hr hc h) [] s = absurd s
    one_member u m (types_of {ps = ps} hr hc h) (w ∷ []) s = absurd s.1
    one_member u m (types_of {w = x} {ps = ps} hr hc h) (w ∷ c ∷ ts) s =
        let r = listed source SpellsPath IsPath (tree.IsPathOf source) SaysPath path_sites one_path h ts s.1.1 in
        let loc = whole_place (w ∷ c ∷ ts) in
        let o = optional source (tree.IsPathOf source) SaysPath r.syns r.nodes ps r.are r.says in
        let d : PRAppDecl = record { kind = record { node = role_of w.kind; loc = Some w.loc }; entity_tys = o.0 } in
        record {
          syn = app_syntax.Types w r.syns loc;
          parsed = S.types (ap is_role s.0.0 ∙ hr) (s.1.0.0 ∙ hc) r.parsed;
          node = record { node = app.PR d; loc = Some loc };
          is = (o.0, refl, o.1);
          says = (d.kind, o.0, refl, ap role_of s.0.0, o.2);
          lawful = r.lawful;
        }
    one_member u m (path_context hw hc h) [] s = absurd s
    one_member u m (path_context hw hc h) (w ∷ []) s = absurd s.1
    one_member u m (path_context {p = p} hw hc h) (w ∷ c ∷ ts) s =
        let r = one_path _ p h ts s.1.1 in
        let loc = whole_place (w ∷ c ∷ ts) in
        record {
          syn = app_syntax.ContextPath r.syn loc;
          parsed = S.context_path (s.0.0 ∙ hw) (s.1.0.0 ∙ hc) r.parsed;
          node = record { node = app.Context (Left r.node); loc = Some loc };
          is = (r.node, refl, r.is);
          says = (r.node, refl, r.says);
          lawful = r.lawful;
        }
    one_member u m (record_context hw hc h) [] s = absurd s
    one_member u m (record_context hw hc h) (w ∷ []) s = absurd s.1
    one_member u m (record_context {xs = xs} hw hc h) (w ∷ c ∷ ts) s =
        let r = read_record source never_both h ts s.1.1 in
        let loc = whole_place (w ∷ c ∷ ts) in
        let n : Node (List (Node (Annotated AttrDecl))) = record { node = r.nodes; loc = Some (whole_place ts) } in
        record {
          syn = app_syntax.ContextRecord r.syns (whole_place ts) loc;
          parsed = S.context_record (s.0.0 ∙ hw) (s.1.0.0 ∙ hc) r.parsed;
          node = record { node = app.Context (Right n); loc = Some loc };
          is = (r.nodes, refl, r.are);
          says = (n, refl, r.shows);
          lawful = r.lawful;
        }

    some_apps : (syns : List AppSyntax) (nodes : List (Node AppDecl)) (m : WrittenMember)
        (ms : List WrittenMember) (loc : Span)
        → AllZip (tree.IsAppOf source) syns nodes → AllZip SaysMember nodes (m ∷ ms)
        → flat_map app_sites syns ≡ apps_sites syns loc
    some_apps [] [] m ms loc are says = absurd says
    some_apps [] (n ∷ nodes) m ms loc are says = absurd are
    some_apps (a ∷ syns) nodes m ms loc are says = refl

    pub read_applies : (u : List Lexeme) (m : Option (List WrittenMember)) → SpellsApplies u m → (ts : List Token)
        → Spells source ts u → ReadsApplies source ts m
    read_applies u m no_applies [] s =
        record { syn = None; parsed = S.no_applies; node = None; is = refl; says = tt; lawful = nothing }
    read_applies u m no_applies (t ∷ ts) s = absurd s
    read_applies u m (some_applies c hw ho h hc) [] s = absurd s
    read_applies u m (some_applies c hw ho h hc) (w ∷ []) s = absurd s.1
    read_applies u m (some_applies c {u = v} {m = first} {ms = ms} hw ho h hc) (w ∷ o ∷ ts) s =
        let k = closed source v c ts s.1.1 in
        let r = separated source IsMemberOf IsApp (tree.IsAppOf source) SaysMember app_sites one_member h
        k.left k.first in
        let loc = whole_place (o ∷ (k.left ++ k.token ∷ [])) in
        subst (λ l. ReadsApplies source (w ∷ o ∷ l) (Some (first ∷ ms))) (sym k.whole)
        (record {
          syn = Some (r.syns, loc);
          parsed = S.some_applies k.token (s.0.0 ∙ hw) (s.1.0.0 ∙ ho) r.parsed (k.is.0 ∙ hc);
          node = Some (record { node = r.nodes; loc = Some loc });
          is = (r.are, refl);
          says = r.says;
          lawful = subst (All (IsFaultless source)) (some_apps r.syns r.nodes first ms loc r.are r.says) r.lawful;
        })

    -- declarations, from their parts
    entity_read : (e : Token) (i p h t : List Token) (z : Token) (names : List (List ℕ)) (ps : List (List (List ℕ)))
        (xs : WrittenAttributes) (tags : Option WrittenType)
        → e.kind ≡ KwEntity → ReadsIdents source i names
        → ReadsAll source (AreParents IsPath p) (tree.IsPathOf source) SaysPath path_sites ps → ReadsShape source h xs
        → ReadsTags source t tags → z.kind ≡ Semi
        → ReadsDecl source (e ∷ (i ++ (p ++ (h ++ (t ++ z ∷ []))))) (entity names ps xs tags)
    entity_read e i p h t z names ps xs tags ke ri rp rh rt kz =
        let d : StandardEntityDecl = record
        { names = ri.nodes; member_of_types = rp.nodes; attrs = rh.node; tags = rt.node } in
        record {
          syn = decl_syntax.Entity ri.syns rp.syns rh.syn rt.syn;
          parsed = S.entity_decl z ke ri.parsed rp.parsed rh.parsed rt.parsed kz;
          node = declaration.Entity (entity_decl.Standard d);
          is = (ri.are, rp.are, rh.is, rt.is);
          says = (ri.says, rp.says, rh.says, rt.says);
          lawful = All-append (IsFaultless source) (names_sites ri.syns)
              (paths_sites rp.syns ++ (shape_sites rh.syn ++ tags_sites rt.syn)) ri.lawful
              (All-append (IsFaultless source) (paths_sites rp.syns) (shape_sites rh.syn ++ tags_sites rt.syn)
              rp.lawful (All-append (IsFaultless source) (shape_sites rh.syn) (tags_sites rt.syn) rh.lawful rt.lawful));
        }

    some_choices : (syns : List Token) (nodes : List (Node (List ℕ))) (c : List ℕ) (cs : List (List ℕ)) (loc : Span)
        → AllZip (tree.IsChoice source) syns nodes → AllZip SaysChoice nodes (c ∷ cs)
        → flat_map name_sites syns ≡ choices_sites syns loc
    some_choices [] [] c cs loc are says = absurd says
    some_choices [] (n ∷ nodes) c cs loc are says = absurd are
    some_choices (a ∷ syns) nodes c cs loc are says = refl

    enum_read : (e : Token) (i : List Token) (n o : Token) (h : List Token) (c z : Token) (names : List (List ℕ))
        (choice : List ℕ) (choices : List (List ℕ))
        → e.kind ≡ KwEntity → ReadsIdents source i names → n.kind ≡ KwEnum → o.kind ≡ LBracket
        → ReadsAll source (AreSeparated IsStringToken h) (tree.IsChoice source) SaysChoice name_sites (choice ∷ choices)
        → c.kind ≡ RBracket → z.kind ≡ Semi
        → ReadsDecl source (e ∷ (i ++ n ∷ o ∷ (h ++ c ∷ z ∷ []))) (enum names (choice ∷ choices))
    enum_read e i n o h c z names choice choices ke ri kn ko rh kc kz =
        let loc = whole_place (o ∷ (h ++ c ∷ [])) in
        let d : EnumEntityDecl = record { names = ri.nodes; choices = rh.nodes } in
        record {
          syn = decl_syntax.Enum ri.syns rh.syns loc;
          parsed = S.enum_decl n o c z ke ri.parsed kn ko rh.parsed kc kz;
          node = declaration.Entity (entity_decl.Enum d);
          is = (ri.are, rh.are);
          says = (ri.says, rh.says);
          lawful = All-append (IsFaultless source) (names_sites ri.syns) (choices_sites rh.syns loc) ri.lawful
              (subst (All (IsFaultless source))
              (some_choices rh.syns rh.nodes choice choices loc rh.are rh.says) rh.lawful);
        }

    external_entity_read : (x e : Token) (i p : List Token) (z : Token) (names : List (List ℕ))
        (ps : List (List (List ℕ)))
        → x.kind ≡ KwExternal → e.kind ≡ KwEntity → ReadsIdents source i names
        → ReadsAll source (AreParents IsPath p) (tree.IsPathOf source) SaysPath path_sites ps → z.kind ≡ Semi
        → ReadsDecl source (x ∷ e ∷ (i ++ (p ++ z ∷ []))) (external_entity names ps)
    external_entity_read x e i p z names ps kx ke ri rp kz =
        let d : ExternalEntityDecl = record { names = ri.nodes; member_of_types = rp.nodes } in
        record {
          syn = decl_syntax.ExternalEntity ri.syns rp.syns;
          parsed = S.external_entity z kx ke ri.parsed rp.parsed kz;
          node = declaration.Entity (entity_decl.External d);
          is = (ri.are, rp.are);
          says = (ri.says, rp.says);
          lawful = All-append (IsFaultless source) (names_sites ri.syns) (paths_sites rp.syns) ri.lawful rp.lawful;
        }

    action_read : (a : Token) (n p h : List Token) (z : Token) (names : List (List ℕ)) (rs : List WrittenRef)
        (ms : Option (List WrittenMember))
        → a.kind ≡ KwAction → ReadsNames source n names
        → ReadsAll source (AreParents IsRef p) (tree.IsRefOf source) SaysRef path_sites rs → ReadsApplies source h ms
        → z.kind ≡ Semi
        → ReadsDecl source (a ∷ (n ++ (p ++ (h ++ z ∷ [])))) (action names rs ms)
    action_read a n p h z names rs ms ka rn rp rh kz =
        let o = optional source (tree.IsRefOf source) SaysRef rp.syns rp.nodes rs rp.are rp.says in
        let d : DefinedActionDecl = record { names = rn.nodes; parents = o.0; app_decls = rh.node } in
        record {
          syn = decl_syntax.Action rn.syns rp.syns rh.syn;
          parsed = S.action_decl z ka rn.parsed rp.parsed rh.parsed kz;
          node = declaration.Action (action_decl.Defined d);
          is = (rn.are, o.1, rh.is);
          says = (rn.says, o.2, rh.says);
          lawful = All-append (IsFaultless source) (names_sites rn.syns) (paths_sites rp.syns ++ applies_sites rh.syn)
              rn.lawful (All-append (IsFaultless source) (paths_sites rp.syns) (applies_sites rh.syn)
              rp.lawful rh.lawful);
        }

    external_action_read : (x a : Token) (n p : List Token) (z : Token) (names : List (List ℕ)) (rs : List WrittenRef)
        → x.kind ≡ KwExternal → a.kind ≡ KwAction → ReadsNames source n names
        → ReadsAll source (AreParents IsRef p) (tree.IsRefOf source) SaysRef path_sites rs → z.kind ≡ Semi
        → ReadsDecl source (x ∷ a ∷ (n ++ (p ++ z ∷ []))) (external_action names rs)
    external_action_read x a n p z names rs kx ka rn rp kz =
        let o = optional source (tree.IsRefOf source) SaysRef rp.syns rp.nodes rs rp.are rp.says in
        let d : ExternalActionDecl = record { names = rn.nodes; parents = o.0 } in
        record {
          syn = decl_syntax.ExternalAction rn.syns rp.syns;
          parsed = S.external_action z kx ka rn.parsed rp.parsed kz;
          node = declaration.Action (action_decl.External d);
          is = (rn.are, o.1);
          says = (rn.says, o.2);
          lawful = All-append (IsFaultless source) (names_sites rn.syns) (paths_sites rp.syns) rn.lawful rp.lawful;
        }

    common_read : (w n e : Token) (u : List Token) (z : Token) (x : Lexeme) (t : WrittenType) → w.kind ≡ KwType
        → IsSpelled source n x → IsIdent x → e.kind ≡ Equals → ReadsType source u t → z.kind ≡ Semi
        → ReadsDecl source (w ∷ n ∷ e ∷ (u ++ z ∷ [])) (common x.text t)
    common_read w n e u z x t kw s i ke r kz =
        let name : Node Id = record { node = record { text = x.text; word = i.id }; loc = Some n.loc } in
        let d : TypeDecl = record { name = name; def = r.node } in
        record {
          syn = decl_syntax.Common n r.syn;
          parsed = S.common_decl z kw (ident_kind source n x s i) ke r.parsed kz;
          node = declaration.Common d;
          is = ((word_here source n x s i.id, refl), r.is);
          says = (refl, r.shows);
          lawful = All-append (IsFaultless source) (name_sites n) (sites_of_type r.syn)
              (ident_site source n x s i) r.lawful;
        }

    read_decl : (u : List Lexeme) (d : WrittenDecl) → SpellsDecl u d → (ts : List Token) → Spells source ts u
        → ReadsDecl source ts d
    read_decl u d (entity_of z ke hi hp hs ht kz) [] s = absurd s
    read_decl u d (entity_of z {i = i} {p = p} {s = h} {t = t} {names = names} {parents = ps} {shape = xs}
        {tags = tags} ke hi hp hh ht kz) (e ∷ ts) s =
        let a = split source i (p ++ (h ++ (t ++ z ∷ []))) ts s.1 in
        let b = split source p (h ++ (t ++ z ∷ [])) a.right a.second in
        let c = split source h (t ++ z ∷ []) b.right b.second in
        let k = closed source t z c.right c.second in
        let whole : ts ≡ a.left ++ (b.left ++ (c.left ++ (k.left ++ k.token ∷ []))) =
        a.whole ∙ ap (λ l. a.left ++ l) (b.whole ∙ ap (λ l. b.left ++ l) (c.whole ∙ ap (λ l. c.left ++ l) k.whole)) in
        subst (λ l. ReadsDecl source (e ∷ l) (entity names ps xs tags)) (sym whole)
        (entity_read e a.left b.left c.left k.left k.token names ps xs tags (s.0.0 ∙ ke)
        (read_idents hi a.left a.first) (read_parents hp b.left b.first) (no_attributes h xs hh c.left c.first)
        (read_tags t tags ht k.left k.first) (k.is.0 ∙ kz))
    read_decl u d (enum_of n o c z ke hi kn ko hs kc kz) [] s = absurd s
    read_decl u d (enum_of n o c z {i = i} {s = h} {names = names} {choice = choice} {choices = choices} ke hi kn ko
        hs kc kz) (e ∷ ts) s =
        let a = between source i (o ∷ (h ++ c ∷ z ∷ [])) n ts s.1 in
        let f = front source o (h ++ c ∷ z ∷ []) a.right a.second in
        let b = between source h (z ∷ []) c f.right f.second in
        let l = alone source z b.right b.second in
        let whole : ts ≡ a.left ++ a.token ∷ f.token ∷ (b.left ++ b.token ∷ l.token ∷ []) =
        a.whole ∙ ap (λ r. a.left ++ a.token ∷ r)
        (f.whole ∙ ap (λ r. f.token ∷ r) (b.whole ∙ ap (λ r. b.left ++ b.token ∷ r) l.whole)) in
        subst (λ r. ReadsDecl source (e ∷ r) (enum names (choice ∷ choices))) (sym whole)
        (enum_read e a.left a.token f.token b.left b.token l.token names choice choices (s.0.0 ∙ ke)
        (read_idents hi a.left a.first) (a.is.0 ∙ kn) (f.is.0 ∙ ko)
        (separated source IsStringOf IsStringToken (tree.IsChoice source) SaysChoice name_sites one_string hs b.left
        b.first) (b.is.0 ∙ kc) (l.is.0 ∙ kz))
    read_decl u d (external_entity_of z kx ke hi hp kz) [] s = absurd s
    read_decl u d (external_entity_of z kx ke hi hp kz) (x ∷ []) s = absurd s.1
    read_decl u d (external_entity_of z {i = i} {p = p} {names = names} {parents = ps} kx ke hi hp kz) (x ∷ e ∷ ts) s =
        let a = split source i (p ++ z ∷ []) ts s.1.1 in
        let k = closed source p z a.right a.second in
        subst (λ l. ReadsDecl source (x ∷ e ∷ l) (external_entity names ps))
        (sym (a.whole ∙ ap (λ l. a.left ++ l) k.whole))
        (external_entity_read x e a.left k.left k.token names ps (s.0.0 ∙ kx) (s.1.0.0 ∙ ke)
        (read_idents hi a.left a.first) (read_parents hp k.left k.first) (k.is.0 ∙ kz))
    read_decl u d (action_of z ka hn hp hs kz) [] s = absurd s
    read_decl u d (action_of z {n = n} {r = p} {s = h} {names = names} {parents = rs} {members = ms} ka hn hp hs kz)
        (x ∷ ts) s =
        let a = split source n (p ++ (h ++ z ∷ [])) ts s.1 in
        let b = split source p (h ++ z ∷ []) a.right a.second in
        let k = closed source h z b.right b.second in
        subst (λ l. ReadsDecl source (x ∷ l) (action names rs ms))
        (sym (a.whole ∙ ap (λ l. a.left ++ l) (b.whole ∙ ap (λ l. b.left ++ l) k.whole)))
        (action_read x a.left b.left k.left k.token names rs ms (s.0.0 ∙ ka) (read_names hn a.left a.first)
        (read_refs hp b.left b.first) (read_applies h ms hs k.left k.first) (k.is.0 ∙ kz))
    read_decl u d (external_action_of z kx ka hn hp kz) [] s = absurd s
    read_decl u d (external_action_of z kx ka hn hp kz) (x ∷ []) s = absurd s.1
    read_decl u d (external_action_of z {n = n} {r = p} {names = names} {parents = rs} kx ka hn hp kz) (x ∷ e ∷ ts) s =
        let a = split source n (p ++ z ∷ []) ts s.1.1 in
        let k = closed source p z a.right a.second in
        subst (λ l. ReadsDecl source (x ∷ e ∷ l) (external_action names rs))
        (sym (a.whole ∙ ap (λ l. a.left ++ l) k.whole))
        (external_action_read x e a.left k.left k.token names rs (s.0.0 ∙ kx) (s.1.0.0 ∙ ka)
        (read_names hn a.left a.first) (read_refs hp k.left k.first) (k.is.0 ∙ kz))
    read_decl u d (common_of z kw i ke h kz) [] s = absurd s
    read_decl u d (common_of z kw i ke h kz) (w ∷ []) s = absurd s.1
    read_decl u d (common_of z kw i ke h kz) (w ∷ n ∷ []) s = absurd s.1.1
    read_decl u d (common_of {n = x} z {u = v} {t = t} kw i ke h kz) (w ∷ n ∷ e ∷ ts) s =
        let k = closed source v z ts s.1.1.1 in
        subst (λ l. ReadsDecl source (w ∷ n ∷ e ∷ l) (common x.text t)) (sym k.whole)
        (common_read w n e k.left k.token x t (s.0.0 ∙ kw) s.1.0 i (s.1.1.0.0 ∙ ke)
        (read_type source never_both h k.left k.first) (k.is.0 ∙ kz))

    read_declared : (u : List Lexeme) (d : WrittenDeclared) → SpellsDeclared u d → (ts : List Token)
        → Spells source ts u → ReadsDeclared source ts d
    read_declared u d (declared_of {a = a} {u = v} {ns = ns} {d = e} w h) ts s =
        let b = split source a v ts s in
        let notes = read_notes source never_both w.spell w.arranged b.left b.first in
        let r = read_decl v e h b.right b.second in
        let loc = whole_place b.right in
        let node : Annotated (Node Declaration) = record
        { item = record { node = r.node; loc = Some loc }; annotations = record { 0 = ns } } in
        subst (λ l. ReadsDeclared source l (record { notes = ns; decl = e })) (sym b.whole)
        (record {
          syn = record { annotations = notes.syns; decl = r.syn; loc = loc };
          parsed = S.declared notes.parsed r.parsed;
          node = node;
          is = (r.is, refl, notes.are);
          says = (r.says, refl);
          lawful = All-cons (IsFaultless source) (annotations notes.syns) (decl_sites r.syn) notes.lawful r.lawful;
        })

    namespace_read : (a : List Token) (n : Token) (p : List Token) (o : Token) (u : List Token) (c : Token)
        (ns : Notes) (name : List (List ℕ)) (ds : List WrittenDeclared)
        → ReadsNotes source a ns → n.kind ≡ KwNamespace → ReadsOnePath source p name → o.kind ≡ LBrace
        → ReadsAll source (AreMany IsDeclared u) (tree.IsDeclaredOf source) SaysDeclared declared_sites ds
        → c.kind ≡ RBrace
        → ReadsItem source (a ++ n ∷ (p ++ o ∷ (u ++ c ∷ []))) (namespace ns name ds)
    namespace_read a n p o u c ns name ds notes kn rp ko rd kc =
        let loc = whole_place (n ∷ (p ++ o ∷ (u ++ c ∷ []))) in
        let it : Namespace = record { name = Some rp.node; decls = rd.nodes; loc = Some loc } in
        let node : Annotated Namespace = record { item = it; annotations = record { 0 = ns } } in
        record {
          syn = item_syntax.Namespace notes.syns rp.syn rd.syns loc;
          parsed = S.namespace n o c notes.parsed kn rp.parsed ko rd.parsed kc;
          node = node;
          is = (rp.node, rd.nodes, refl, rp.is, rd.are, notes.are);
          says = (rp.says, rd.says, refl);
          lawful = All-cons (IsFaultless source) (annotations notes.syns)
              (path_sites rp.syn ++ flat_map declared_sites rd.syns) notes.lawful
              (All-append (IsFaultless source) (path_sites rp.syn) (flat_map declared_sites rd.syns)
              rp.lawful rd.lawful);
        }

    -- a declaration in no namespace has its notes, and the namespace that holds it has none
    read_item : (u : List Lexeme) (i : WrittenItem) → SpellsItem u i → (ts : List Token) → Spells source ts u
        → ReadsItem source ts i
    read_item u i (namespace_of {a = a} n o c {p = p} {u = v} {ns = ns} {name = name} {ds = ds} w kn hp ko hd kc) ts s =
        let b = between source a (p ++ o ∷ (v ++ c ∷ [])) n ts s in
        let f = between source p (v ++ c ∷ []) o b.right b.second in
        let k = closed source v c f.right f.second in
        subst (λ l. ReadsItem source l (namespace ns name ds))
        (sym (b.whole ∙ ap (λ l. b.left ++ b.token ∷ l) (f.whole ∙ ap (λ l. f.left ++ f.token ∷ l) k.whole)))
        (namespace_read b.left b.token f.left f.token k.left k.token ns name ds
        (read_notes source never_both w.spell w.arranged b.left b.first) (b.is.0 ∙ kn)
        (one_path p name hp f.left f.first) (f.is.0 ∙ ko)
        (many source SpellsDeclared IsDeclared (tree.IsDeclaredOf source) SaysDeclared declared_sites read_declared hd
        k.left k.first) (k.is.0 ∙ kc))
    read_item u i (outside_of {d = d} h) ts s =
        let r = read_declared u d h ts s in
        let it : Namespace = record { name = None; decls = r.node ∷ []; loc = None } in
        let node : Annotated Namespace = record { item = it; annotations = record { 0 = [] } } in
        record {
          syn = item_syntax.Decl r.syn;
          parsed = S.outside r.parsed;
          node = node;
          is = (r.node, refl, r.is);
          says = (refl, (r.says, tt), refl);
          lawful = r.lawful;
        }

    pub read_schema : {u : List Lexeme} {w : List WrittenItem} → SpellsSchema u w → (ts : List Token)
        → Spells source ts u → ReadsSchema source ts w
    read_schema = many source SpellsItem IsItem (tree.IsItemOf source) SaysItem item_sites read_item
