-- The sites of a syntax are placed, and their ends are ends of its tokens, in order.
use Rattle.std.proofs.Common.{◌≡◌, ℕ, ◌≤◌, List, [], ◌∷◌, ◌++◌, true, map, refl, sym, ap, subst, append_assoc}
use Rattle.std.proofs.Common.{arith, Option, None, Some, inl, inr}
use Rattle.std.specs.Prelude.{◌⊎◌, max}
use Rattle.std.specs.List.{All, flat_map}
use Rattle.std.proofs.lemmas.List.{map-append, append-nil}
use Rattle.std.proofs.lemmas.List.Elements.{All-nil, All-cons, All-head, All-tail, All-append}
use Rattle.std.proofs.lemmas.List.Concat.{flat_map-append}
use Rattle.cedar_data.specs.Span.{Span}
use Rattle.cedar_data.proofs.Lists.{All-front, All-back}
use Rattle.schema_syntax_grammar.specs.declared.token_kind.TokenKind.{TokenKind}
use Rattle.schema_syntax_grammar.specs.declared.token_kind.TokenKind.TheVariants.{StringLit}
use Rattle.schema_syntax_grammar.specs.Grammar.{is_ident, is_name_kind}
use Rattle.schema_syntax_grammar.proofs.Complete.{ident_is_name}
use Rattle.schema_syntax_tokens.specs.declared.token.Token.{Token}
use Rattle.schema_syntax_tokens.specs.Scans.{IsPlaced}
use Rattle.schema_syntax_tokens.specs.TokenLists.{whole_place}
use Rattle.schema_syntax_parser.specs.declared.syntax.PathSyntax.{PathSyntax}
use Rattle.schema_syntax_parser.specs.declared.syntax.AnnotationSyntax.{AnnotationSyntax}
use Rattle.schema_syntax_parser.specs.declared.syntax.TypeSyntax.{TypeSyntax}
use Rattle.schema_syntax_parser.specs.declared.syntax.AttrSyntax.{AttrSyntax}
use Rattle.schema_syntax_parser.specs.declared.syntax.AppSyntax.{AppSyntax}
use Rattle.schema_syntax_parser.specs.declared.syntax.DeclSyntax.{DeclSyntax}
use Rattle.schema_syntax_parser.specs.declared.syntax.DeclaredSyntax.{DeclaredSyntax}
use Rattle.schema_syntax_parser.specs.declared.syntax.ItemSyntax.{ItemSyntax}
use Rattle.schema_syntax_parser.specs.Syntax.{IsChain, AreSeparated, AreListed, AreMany, IsPath, IsRef, AreParents}
use Rattle.schema_syntax_parser.specs.Syntax.{AreAnnotations, IsType, IsRecord, AreAttrs, IsAttr, IsShape}
use Rattle.schema_syntax_parser.specs.Syntax.{AreTags, IsStringToken, IsApp, Applies, IsDecl, IsDeclared}
use Rattle.schema_syntax_parser.specs.Syntax.{IsItem, IsSyntax}
use Rattle.schema_syntax_parser.specs.Syntax as S
use Rattle.schema_syntax_reader.specs.Sites.{Site, word, text, annotations, empty, site_of_kind, name_sites}
use Rattle.schema_syntax_reader.specs.Sites.{names_sites, path_sites, paths_sites, sites_of_type, sites_of_attr}
use Rattle.schema_syntax_reader.specs.Sites.{sites_of_attrs, shape_sites, tags_sites, app_sites, choices_sites}
use Rattle.schema_syntax_reader.specs.Sites.{apps_sites, applies_sites, decl_sites, declared_sites, item_sites}
use Rattle.schema_syntax_reader.specs.Sites.{sites_of}
use Rattle.schema_syntax_reader.specs.Placed.{AreScanned, note_tokens, IsPlacedNote, IsPlacedSite}
use Rattle.schema_syntax_reader.proofs.SiteEquations.{of_path, of_set, of_record, of_attr}
use Rattle.schema_syntax_reader.proofs.Rising.{rise_both, Sub, none, skip, keep, sub_join, sub_none, sub_map}
use Rattle.schema_syntax_reader.proofs.Rising.{sub_rise}

abbrev pub ends : List Token → List ℕ
ends ts = map (λ t. t.loc.end) ts

-- the ends of the tokens that end a site's faults
abbrev pub site_ends : Site → List ℕ
site_ends (word t) = t.loc.end ∷ []
site_ends (text t) = t.loc.end ∷ []
site_ends (annotations list) = ends (note_tokens list)
site_ends (empty brackets) = brackets.end ∷ []

abbrev pub sites_ends : List Site → List ℕ
sites_ends sites = flat_map site_ends sites

pub name_split : (k : TokenKind) → is_name_kind k ≡ true → (k ≡ StringLit) ⊎ (is_ident k ≡ true)
name_split StringLit h = inl refl
name_split k h = inr h

-- a word is no string
pub site_word : (k : TokenKind) → is_ident k ≡ true → (t : Token) → site_of_kind k t ≡ word t
site_word StringLit h t = cc
site_word _ h t = refl

module _ (source : List ℕ) where
  abbrev Good : List Token → Type 0
  Good u = AreScanned source u

  pub record Fits (u : List Token) (sites : List Site) : Type 0 where
    pub placed : All (IsPlacedSite source) sites
    pub sub : Sub (sites_ends sites) (ends u)

  pub good_left : (u v : List Token) → Good (u ++ v) → Good u
  good_left u v g = record { placed = All-front (IsPlaced source) u v g.placed; rise = (rise_both u v g.rise).0 }

  pub good_right : (u v : List Token) → Good (u ++ v) → Good v
  good_right u v g = record { placed = All-back (IsPlaced source) u v g.placed; rise = (rise_both u v g.rise).1 }

  pub good_rest : (t : Token) (u : List Token) → Good (t ∷ u) → Good u
  good_rest t u g = record { placed = All-tail (IsPlaced source) t u g.placed; rise = g.rise.1 }

  fits_join : (u v : List Token) (a b : List Site) → Fits u a → Fits v b → Fits (u ++ v) (a ++ b)
  fits_join u v a b f g = record {
    placed = All-append (IsPlacedSite source) a b f.placed g.placed;
    sub = subst (λ x. Sub (sites_ends (a ++ b)) x) (sym (map-append (λ t. t.loc.end) u v))
        (subst (λ x. Sub x (ends u ++ ends v)) (sym (flat_map-append site_ends a b)) (sub_join f.sub g.sub));
  }

  fits_skip : (t : Token) (u : List Token) (a : List Site) → Fits u a → Fits (t ∷ u) a
  fits_skip t u a f = record { placed = f.placed; sub = skip t.loc.end f.sub }

  -- tokens without a site behind a part
  fits_end : (u v : List Token) (a : List Site) → Fits u a → Fits (u ++ v) a
  fits_end u v a f = subst (Fits (u ++ v)) (append-nil a)
      (fits_join u v a [] f (record { placed = All-nil (IsPlacedSite source); sub = sub_none (ends v) }))

  fits_none : Fits [] []
  fits_none = record { placed = All-nil (IsPlacedSite source); sub = none }

  -- one name
  word_fits : (t : Token) (u : List Token) → is_ident t.kind ≡ true → Good (t ∷ u) → Fits (t ∷ []) (word t ∷ [])
  word_fits t u h g = record {
    placed = All-cons (IsPlacedSite source) (word t) []
        (All-head (IsPlaced source) t u g.placed, h) (All-nil (IsPlacedSite source));
    sub = keep t.loc.end none;
  }

  text_fits : (t : Token) (u : List Token) → t.kind ≡ StringLit → Good (t ∷ u) → Fits (t ∷ []) (text t ∷ [])
  text_fits t u h g = record {
    placed = All-cons (IsPlacedSite source) (text t) []
        (All-head (IsPlaced source) t u g.placed, h) (All-nil (IsPlacedSite source));
    sub = keep t.loc.end none;
  }

  name_fits : (t : Token) (u : List Token) → is_name_kind t.kind ≡ true → Good (t ∷ u) → Fits (t ∷ []) (name_sites t)
  name_fits t u h g =
      elim (name_split t.kind h) [
        | inl e ↦ subst (λ k. Fits (t ∷ []) (site_of_kind k t ∷ [])) (sym e) (text_fits t u e g)
        | inr i ↦ subst (λ s. Fits (t ∷ []) (s ∷ [])) (sym (site_word t.kind i t)) (word_fits t u i g)
      ]

  -- names with a separator between two
  names_fit : {k : TokenKind} {u names : List Token} → IsChain k is_name_kind u names → Good u
      → Fits u (names_sites names)
  names_fit (S.one {t = t} h) g = name_fits t [] h g
  names_fit (S.more {t = t} {s = s} {u = u} {names = names} h k r) g =
      fits_join (t ∷ []) (s ∷ u) (name_sites t) (names_sites names) (name_fits t (s ∷ u) h g)
      (fits_skip s u (names_sites names) (names_fit r (good_rest s u (good_rest t (s ∷ u) g))))

  chain_names : {k : TokenKind} {u names : List Token} → IsChain k is_ident u names → IsChain k is_name_kind u names
  chain_names (S.one {t = t} h) = S.one (ident_is_name t.kind h)
  chain_names (S.more {t = t} h k r) = S.more (ident_is_name t.kind h) k (chain_names r)

  idents_fit : {k : TokenKind} {u names : List Token} → IsChain k is_ident u names → Good u
      → Fits u (names_sites names)
  idents_fit c g = names_fit (chain_names c) g

  path_fits : {u : List Token} {p : PathSyntax} → IsPath u p → Good u → Fits u (path_sites p)
  path_fits (S.path c) g = idents_fit c g

  ref_fits : {u : List Token} {p : PathSyntax} → IsRef u p → Good u → Fits u (path_sites p)
  ref_fits (S.plain {t = t} h) g = name_fits t [] h g
  ref_fits (S.typed {u = u} {names = names} s q c k l) g =
      let rest = good_rest s (q ∷ []) (good_right u (s ∷ q ∷ []) g) in
      subst (Fits (u ++ s ∷ q ∷ [])) (sym (flat_map-append name_sites names (q ∷ [])))
      (fits_join u (s ∷ q ∷ []) (names_sites names) (name_sites q) (idents_fit c (good_left u (s ∷ q ∷ []) g))
      (fits_skip s (q ∷ []) (name_sites q) (name_fits q [] (rw l refl) rest)))

  string_fits : {u : List Token} {t : Token} → IsStringToken u t → Good u → Fits u (name_sites t)
  string_fits (S.string {t = t} h) g = name_fits t [] (rw h refl) g

  -- lists of parts
  module _ {A : Type 0} (P : List Token → A → Type 0) (sites : A → List Site)
      (each : (u : List Token) (x : A) → P u x → Good u → Fits u (sites x)) where
    separated_fit : {u : List Token} {xs : List A} → AreSeparated P u xs → Good u → Fits u (flat_map sites xs)
    separated_fit S.none g = fits_none
    separated_fit (S.last {u = u} {x = x} p) g = subst (Fits u) (sym (append-nil (sites x))) (each u x p g)
    separated_fit (S.more {u = u} {v = v} c {x = x} {xs = xs} p k r) g =
        fits_join u (c ∷ v) (sites x) (flat_map sites xs) (each u x p (good_left u (c ∷ v) g))
        (fits_skip c v (flat_map sites xs) (separated_fit r (good_rest c v (good_right u (c ∷ v) g))))

    listed_fit : {u : List Token} {xs : List A} → AreListed P u xs → Good u → Fits u (flat_map sites xs)
    listed_fit (S.single {u = u} {x = x} p) g = subst (Fits u) (sym (append-nil (sites x))) (each u x p g)
    listed_fit (S.listed {o = o} c {u = u} {xs = xs} h s k) g =
        fits_skip o (u ++ c ∷ []) (flat_map sites xs)
        (fits_end u (c ∷ []) (flat_map sites xs) (separated_fit s (good_left u (c ∷ []) (good_rest o (u ++ c ∷ []) g))))

    many_fit : {u : List Token} {xs : List A} → AreMany P u xs → Good u → Fits u (flat_map sites xs)
    many_fit S.none g = fits_none
    many_fit (S.more {u = u} {v = v} {x = x} {xs = xs} p r) g =
        fits_join u v (sites x) (flat_map sites xs) (each u x p (good_left u v g)) (many_fit r (good_right u v g))

  parents_fit : {P : List Token → PathSyntax → Type 0} {u : List Token} {ps : List PathSyntax}
      → ((u : List Token) (p : PathSyntax) → P u p → Good u → Fits u (path_sites p)) → AreParents P u ps → Good u
      → Fits u (paths_sites ps)
  parents_fit each S.no_parents g = fits_none
  parents_fit {P} each (S.in_parents {i = i} {u = u} {ps = ps} h l) g =
      fits_skip i u (paths_sites ps) (listed_fit P path_sites each l (good_rest i u g))

  -- annotations
  pub notes_sub : {u : List Token} {list : List AnnotationSyntax} → AreAnnotations u list → Sub (note_tokens list) u
  notes_sub S.none = none
  notes_sub (S.bare {a = a} {k = k} h w r) = skip a (keep k (notes_sub r))
  notes_sub (S.valued {a = a} {k = k} {o = o} {v = v} {c = c} h w p q t r) =
      skip a (keep k (skip o (keep v (skip c (notes_sub r)))))

  pub notes_placed : {u : List Token} {list : List AnnotationSyntax} → AreAnnotations u list → All (IsPlaced source) u
      → All (IsPlacedNote source) list
  notes_placed S.none g = All-nil (IsPlacedNote source)
  notes_placed (S.bare {a = a} {k = k} {u = u} {xs = list} h w r) g =
      let g1 = All-tail (IsPlaced source) a (k ∷ u) g in
      All-cons (IsPlacedNote source) (record { key = k; value = None }) list
      (All-head (IsPlaced source) k u g1, w, tt) (notes_placed r (All-tail (IsPlaced source) k u g1))
  notes_placed (S.valued {a = a} {k = k} {o = o} {v = v} {c = c} {u = u} {xs = list} h w p q t r) g =
      let g1 = All-tail (IsPlaced source) a (k ∷ o ∷ v ∷ c ∷ u) g in
      let g2 = All-tail (IsPlaced source) k (o ∷ v ∷ c ∷ u) g1 in
      let g3 = All-tail (IsPlaced source) o (v ∷ c ∷ u) g2 in
      let g4 = All-tail (IsPlaced source) v (c ∷ u) g3 in
      All-cons (IsPlacedNote source) (record { key = k; value = Some v }) list
      (All-head (IsPlaced source) k (o ∷ v ∷ c ∷ u) g1, w, (All-head (IsPlaced source) v (c ∷ u) g3, q))
      (notes_placed r (All-tail (IsPlaced source) c u g4))

  notes_fit : {u : List Token} {list : List AnnotationSyntax} → AreAnnotations u list → Good u
      → Fits u (annotations list ∷ [])
  notes_fit {u} {list} r g = record {
    placed = All-cons (IsPlacedSite source) (annotations list) []
        (notes_placed r g.placed, sub_rise (notes_sub r) g.rise) (All-nil (IsPlacedSite source));
    sub = subst (λ x. Sub x (ends u)) (sym (append-nil (ends (note_tokens list))))
        (sub_map (λ t. t.loc.end) (notes_sub r));
  }

  -- types
  mutual
    type_fits : {u : List Token} {t : TypeSyntax} → IsType u t → Good u → Fits u (sites_of_type t)
    type_fits (S.path_type {u = u} {p = p} r) g = subst (Fits u) (sym (of_path p)) (path_fits r g)
    type_fits (S.set_type {s = s} {o = o} c {u = u} {t = t} ks ko r kc) g =
        subst (Fits (s ∷ o ∷ (u ++ c ∷ []))) (sym (of_set t (whole_place (s ∷ o ∷ (u ++ c ∷ [])))))
        (fits_skip s (o ∷ (u ++ c ∷ [])) (sites_of_type t)
        (fits_skip o (u ++ c ∷ []) (sites_of_type t)
        (fits_end u (c ∷ []) (sites_of_type t)
        (type_fits r (good_left u (c ∷ []) (good_rest o (u ++ c ∷ []) (good_rest s (o ∷ (u ++ c ∷ [])) g)))))))
    type_fits (S.record_type {u = u} {xs = xs} r) g =
        subst (Fits u) (sym (of_record xs (whole_place u))) (record_fits r g)

    record_fits : {u : List Token} {xs : List AttrSyntax} → IsRecord u xs → Good u → Fits u (sites_of_attrs xs)
    record_fits (S.braces {o = o} c {u = u} {xs = xs} ko r kc) g =
        fits_skip o (u ++ c ∷ []) (sites_of_attrs xs)
        (fits_end u (c ∷ []) (sites_of_attrs xs) (attrs_fit r (good_left u (c ∷ []) (good_rest o (u ++ c ∷ []) g))))

    attrs_fit : {u : List Token} {xs : List AttrSyntax} → AreAttrs u xs → Good u → Fits u (sites_of_attrs xs)
    attrs_fit S.no_attr g = fits_none
    attrs_fit (S.last_attr {u = u} {a = a} p) g = subst (Fits u) (sym (append-nil (sites_of_attr a))) (attr_fits p g)
    attrs_fit (S.more_attrs {u = u} {v = v} c {a = a} {xs = xs} p k r) g =
        fits_join u (c ∷ v) (sites_of_attr a) (sites_of_attrs xs) (attr_fits p (good_left u (c ∷ v) g))
        (fits_skip c v (sites_of_attrs xs) (attrs_fit r (good_rest c v (good_right u (c ∷ v) g))))

    attr_fits : {u : List Token} {a : AttrSyntax} → IsAttr u a → Good u → Fits u (sites_of_attr a)
    attr_fits (S.attr n c {a = a} {m = m} {u = u} {xs = notes} {t = t} p h mk k r) g =
        let rest = good_right a (n ∷ (m ++ c ∷ u)) g in
        let behind = good_right m (c ∷ u) (good_rest n (m ++ c ∷ u) rest) in
        let ty = fits_skip c u (sites_of_type t) (type_fits r (good_rest c u behind)) in
        let marked = fits_join m (c ∷ u) [] (sites_of_type t)
        (record { placed = All-nil (IsPlacedSite source); sub = sub_none (ends m) }) ty in
        let named = fits_join (n ∷ []) (m ++ c ∷ u) (name_sites n) (sites_of_type t)
        (name_fits n (m ++ c ∷ u) h rest) marked in
        subst (Fits (a ++ n ∷ (m ++ c ∷ u))) (sym (of_attr _))
        (fits_join a (n ∷ (m ++ c ∷ u)) (annotations notes ∷ []) (name_sites n ++ sites_of_type t)
        (notes_fit p (good_left a (n ∷ (m ++ c ∷ u)) g)) named)

  shape_fits : {u : List Token} {s : Option (List AttrSyntax × Span)} → IsShape u s → Good u → Fits u (shape_sites s)
  shape_fits S.no_shape g = fits_none
  shape_fits (S.bare_shape r) g = record_fits r g
  shape_fits (S.equals_shape {e = e} {u = u} {xs = xs} h r) g =
      fits_skip e u (sites_of_attrs xs) (record_fits r (good_rest e u g))

  tags_fit : {u : List Token} {t : Option TypeSyntax} → AreTags u t → Good u → Fits u (tags_sites t)
  tags_fit S.no_tags g = fits_none
  tags_fit (S.some_tags {w = w} {u = u} {t = t} h r) g = fits_skip w u (sites_of_type t) (type_fits r (good_rest w u g))

  app_fits : {u : List Token} {a : AppSyntax} → IsApp u a → Good u → Fits u (app_sites a)
  app_fits (S.types {w = w} {c = c} {u = u} {ps = ps} h k l) g =
      fits_skip w (c ∷ u) (paths_sites ps)
      (fits_skip c u (paths_sites ps)
      (listed_fit IsPath path_sites (λ u p r. path_fits r) l (good_rest c u (good_rest w (c ∷ u) g))))
  app_fits (S.context_path {w = w} {c = c} {u = u} {p = p} h k r) g =
      fits_skip w (c ∷ u) (path_sites p)
      (fits_skip c u (path_sites p) (path_fits r (good_rest c u (good_rest w (c ∷ u) g))))
  app_fits (S.context_record {w = w} {c = c} {u = u} {xs = xs} h k r) g =
      fits_skip w (c ∷ u) (sites_of_attrs xs)
      (fits_skip c u (sites_of_attrs xs) (record_fits r (good_rest c u (good_rest w (c ∷ u) g))))

  -- the end of two brackets with nothing between them
  end_is : (o c : Token) → Good (o ∷ c ∷ []) → (whole_place (o ∷ c ∷ [])).end ≡ c.loc.end
  end_is o c g =
      let a = All-head (λ s. o.loc.end ≤ s.loc.end) c [] g.rise.0 in
      let b = (All-head (IsPlaced source) o (c ∷ []) g.placed).in_order in
      max_is o.loc.start c.loc.end (omega (arith, a, b))
    where
      max_is : (n m : ℕ) → n ≤ m → max n m ≡ m
      max_is n m h = omega (arith, h)

  empty_fits : (o c : Token) → Good (o ∷ c ∷ []) → Fits (o ∷ c ∷ []) (empty (whole_place (o ∷ c ∷ [])) ∷ [])
  empty_fits o c g = record {
    placed = All-cons (IsPlacedSite source) (empty (whole_place (o ∷ c ∷ []))) [] tt (All-nil (IsPlacedSite source));
    sub = subst (λ e. Sub (e ∷ []) (ends (o ∷ c ∷ []))) (sym (end_is o c g)) (skip o.loc.end (keep c.loc.end none));
  }

  -- items between two brackets, or nothing between them
  choices_fit : (o c : Token) {u choices : List Token} → AreSeparated IsStringToken u choices
      → Good (o ∷ (u ++ c ∷ [])) → Fits (o ∷ (u ++ c ∷ [])) (choices_sites choices (whole_place (o ∷ (u ++ c ∷ []))))
  choices_fit o c S.none g = empty_fits o c g
  choices_fit o c (S.last {u = u} {x = x} p) g =
      fits_skip o (u ++ c ∷ []) (names_sites (x ∷ []))
      (fits_end u (c ∷ []) (names_sites (x ∷ []))
      (separated_fit IsStringToken name_sites (λ u t s. string_fits s) (S.last p)
      (good_left u (c ∷ []) (good_rest o (u ++ c ∷ []) g))))
  choices_fit o c (S.more {u = u} {v = v} d {x = x} {xs = xs} p k r) g =
      fits_skip o ((u ++ d ∷ v) ++ c ∷ []) (names_sites (x ∷ xs))
      (fits_end (u ++ d ∷ v) (c ∷ []) (names_sites (x ∷ xs))
      (separated_fit IsStringToken name_sites (λ u t s. string_fits s) (S.more d p k r)
      (good_left (u ++ d ∷ v) (c ∷ []) (good_rest o ((u ++ d ∷ v) ++ c ∷ []) g))))

  apps_fit : (o c : Token) {u : List Token} {apps : List AppSyntax} → AreSeparated IsApp u apps
      → Good (o ∷ (u ++ c ∷ [])) → Fits (o ∷ (u ++ c ∷ [])) (apps_sites apps (whole_place (o ∷ (u ++ c ∷ []))))
  apps_fit o c S.none g = empty_fits o c g
  apps_fit o c (S.last {u = u} {x = x} p) g =
      fits_skip o (u ++ c ∷ []) (flat_map app_sites (x ∷ []))
      (fits_end u (c ∷ []) (flat_map app_sites (x ∷ []))
      (separated_fit IsApp app_sites (λ u a p. app_fits p) (S.last p)
      (good_left u (c ∷ []) (good_rest o (u ++ c ∷ []) g))))
  apps_fit o c (S.more {u = u} {v = v} d {x = x} {xs = xs} p k r) g =
      fits_skip o ((u ++ d ∷ v) ++ c ∷ []) (flat_map app_sites (x ∷ xs))
      (fits_end (u ++ d ∷ v) (c ∷ []) (flat_map app_sites (x ∷ xs))
      (separated_fit IsApp app_sites (λ u a p. app_fits p) (S.more d p k r)
      (good_left (u ++ d ∷ v) (c ∷ []) (good_rest o ((u ++ d ∷ v) ++ c ∷ []) g))))

  applies_fit : {u : List Token} {s : Option (List AppSyntax × Span)} → Applies u s → Good u
      → Fits u (applies_sites s)
  applies_fit S.no_applies g = fits_none
  applies_fit (S.some_applies {w = w} {o = o} c {u = u} {xs = xs} h ko s k) g =
      fits_skip w (o ∷ (u ++ c ∷ [])) (apps_sites xs (whole_place (o ∷ (u ++ c ∷ []))))
      (apps_fit o c s (good_rest w (o ∷ (u ++ c ∷ [])) g))

  paths_fit : {u : List Token} {ps : List PathSyntax} → AreParents IsPath u ps → Good u → Fits u (paths_sites ps)
  paths_fit r g = parents_fit (λ u p h. path_fits h) r g

  refs_fit : {u : List Token} {ps : List PathSyntax} → AreParents IsRef u ps → Good u → Fits u (paths_sites ps)
  refs_fit r g = parents_fit (λ u p h. ref_fits h) r g

  decl_fits : {u : List Token} {d : DeclSyntax} → IsDecl u d → Good u → Fits u (decl_sites d)
  decl_fits (S.entity_decl {e = e} z {i = i} {p = p} {s = s} {t = t} {names = names} {parents = parents}
      {shape = shape} {tags = tags} h is ps sh ts k) g =
      let g1 = good_rest e (i ++ (p ++ (s ++ (t ++ z ∷ [])))) g in
      let g2 = good_right i (p ++ (s ++ (t ++ z ∷ []))) g1 in
      let g3 = good_right p (s ++ (t ++ z ∷ [])) g2 in
      let g4 = good_right s (t ++ z ∷ []) g3 in
      let four = fits_end t (z ∷ []) (tags_sites tags) (tags_fit ts (good_left t (z ∷ []) g4)) in
      let three = fits_join s (t ++ z ∷ []) (shape_sites shape) (tags_sites tags)
      (shape_fits sh (good_left s (t ++ z ∷ []) g3)) four in
      let two = fits_join p (s ++ (t ++ z ∷ [])) (paths_sites parents) (shape_sites shape ++ tags_sites tags)
      (paths_fit ps (good_left p (s ++ (t ++ z ∷ [])) g2)) three in
      fits_skip e (i ++ (p ++ (s ++ (t ++ z ∷ []))))
      (names_sites names ++ (paths_sites parents ++ (shape_sites shape ++ tags_sites tags)))
      (fits_join i (p ++ (s ++ (t ++ z ∷ []))) (names_sites names)
      (paths_sites parents ++ (shape_sites shape ++ tags_sites tags))
      (idents_fit is (good_left i (p ++ (s ++ (t ++ z ∷ []))) g1)) two)
  decl_fits (S.enum_decl {e = e} n o c z {i = i} {s = s} {names = names} {choices = choices} h is kn ko ss kc kz) g =
      let whole : o ∷ (s ++ c ∷ z ∷ []) ≡ (o ∷ (s ++ c ∷ []))
      ++ z ∷ [] = ap (λ (x : List Token). o ∷ x) (sym (append_assoc s (c ∷ []) (z ∷ []))) in
      let g1 = good_rest e (i ++ n ∷ o ∷ (s ++ c ∷ z ∷ [])) g in
      let g2 = good_rest n (o ∷ (s ++ c ∷ z ∷ [])) (good_right i (n ∷ o ∷ (s ++ c ∷ z ∷ [])) g1) in
      let g3 = good_left (o ∷ (s ++ c ∷ [])) (z ∷ []) (subst Good whole g2) in
      let sites = choices_sites choices (whole_place (o ∷ (s ++ c ∷ []))) in
      let two = subst (λ x. Fits x sites) (sym whole)
      (fits_end (o ∷ (s ++ c ∷ [])) (z ∷ []) sites (choices_fit o c ss g3)) in
      fits_skip e (i ++ n ∷ o ∷ (s ++ c ∷ z ∷ [])) (names_sites names ++ sites)
      (fits_join i (n ∷ o ∷ (s ++ c ∷ z ∷ [])) (names_sites names) sites
      (idents_fit is (good_left i (n ∷ o ∷ (s ++ c ∷ z ∷ [])) g1)) (fits_skip n (o ∷ (s ++ c ∷ z ∷ [])) sites two))
  decl_fits (S.external_entity {x = x} {e = e} z {i = i} {p = p} {names = names} {parents = parents} h he is ps k) g =
      let g1 = good_rest e (i ++ (p ++ z ∷ [])) (good_rest x (e ∷ (i ++ (p ++ z ∷ []))) g) in
      let g2 = good_right i (p ++ z ∷ []) g1 in
      let two = fits_end p (z ∷ []) (paths_sites parents) (paths_fit ps (good_left p (z ∷ []) g2)) in
      fits_skip x (e ∷ (i ++ (p ++ z ∷ []))) (names_sites names ++ paths_sites parents)
      (fits_skip e (i ++ (p ++ z ∷ [])) (names_sites names ++ paths_sites parents)
      (fits_join i (p ++ z ∷ []) (names_sites names) (paths_sites parents)
      (idents_fit is (good_left i (p ++ z ∷ []) g1)) two))
  decl_fits (S.action_decl {a = a} z {n = n} {r = r} {s = s} {names = names} {parents = parents} {applies = applies} h
      is ps as' k) g =
      let g1 = good_rest a (n ++ (r ++ (s ++ z ∷ []))) g in
      let g2 = good_right n (r ++ (s ++ z ∷ [])) g1 in
      let g3 = good_right r (s ++ z ∷ []) g2 in
      let three = fits_end s (z ∷ []) (applies_sites applies) (applies_fit as' (good_left s (z ∷ []) g3)) in
      let two = fits_join r (s ++ z ∷ []) (paths_sites parents) (applies_sites applies)
      (refs_fit ps (good_left r (s ++ z ∷ []) g2)) three in
      fits_skip a (n ++ (r ++ (s ++ z ∷ []))) (names_sites names ++ (paths_sites parents ++ applies_sites applies))
      (fits_join n (r ++ (s ++ z ∷ [])) (names_sites names) (paths_sites parents ++ applies_sites applies)
      (names_fit is (good_left n (r ++ (s ++ z ∷ [])) g1)) two)
  decl_fits (S.external_action {x = x} {a = a} z {n = n} {r = r} {names = names} {parents = parents} h ha is ps k) g =
      let g1 = good_rest a (n ++ (r ++ z ∷ [])) (good_rest x (a ∷ (n ++ (r ++ z ∷ []))) g) in
      let g2 = good_right n (r ++ z ∷ []) g1 in
      let two = fits_end r (z ∷ []) (paths_sites parents) (refs_fit ps (good_left r (z ∷ []) g2)) in
      fits_skip x (a ∷ (n ++ (r ++ z ∷ []))) (names_sites names ++ paths_sites parents)
      (fits_skip a (n ++ (r ++ z ∷ [])) (names_sites names ++ paths_sites parents)
      (fits_join n (r ++ z ∷ []) (names_sites names) (paths_sites parents)
      (names_fit is (good_left n (r ++ z ∷ []) g1)) two))
  decl_fits (S.common_decl {w = w} {n = n} {e = e} z {u = u} {t = t} h hn he r k) g =
      let g1 = good_rest w (n ∷ e ∷ (u ++ z ∷ [])) g in
      let g2 = good_rest e (u ++ z ∷ []) (good_rest n (e ∷ (u ++ z ∷ [])) g1) in
      let two = fits_skip e (u ++ z ∷ []) (sites_of_type t)
      (fits_end u (z ∷ []) (sites_of_type t) (type_fits r (good_left u (z ∷ []) g2))) in
      fits_skip w (n ∷ e ∷ (u ++ z ∷ [])) (name_sites n ++ sites_of_type t)
      (fits_join (n ∷ []) (e ∷ (u ++ z ∷ [])) (name_sites n) (sites_of_type t)
      (name_fits n (e ∷ (u ++ z ∷ [])) (ident_is_name n.kind hn) g1) two)

  declared_fits : {u : List Token} {d : DeclaredSyntax} → IsDeclared u d → Good u → Fits u (declared_sites d)
  declared_fits (S.declared {a = a} {u = u} {xs = notes} {d = d} p r) g =
      fits_join a u (annotations notes ∷ []) (decl_sites d) (notes_fit p (good_left a u g))
      (decl_fits r (good_right a u g))

  item_fits : {u : List Token} {i : ItemSyntax} → IsItem u i → Good u → Fits u (item_sites i)
  item_fits (S.outside d) g = declared_fits d g
  item_fits (S.namespace n o c {a = a} {p = p} {u = u} {xs = notes} {name = name} {ds = ds} r hn ps ho ds' hc) g =
      let g1 = good_rest n (p ++ o ∷ (u ++ c ∷ [])) (good_right a (n ∷ (p ++ o ∷ (u ++ c ∷ []))) g) in
      let g2 = good_rest o (u ++ c ∷ []) (good_right p (o ∷ (u ++ c ∷ [])) g1) in
      let decls = flat_map declared_sites ds in
      let three = fits_end u (c ∷ []) decls
      (many_fit IsDeclared declared_sites (λ u d h. declared_fits h) ds' (good_left u (c ∷ []) g2)) in
      let two = fits_join p (o ∷ (u ++ c ∷ [])) (path_sites name) decls
      (path_fits ps (good_left p (o ∷ (u ++ c ∷ [])) g1)) (fits_skip o (u ++ c ∷ []) decls three) in
      fits_join a (n ∷ (p ++ o ∷ (u ++ c ∷ []))) (annotations notes ∷ []) (path_sites name ++ decls)
      (notes_fit r (good_left a (n ∷ (p ++ o ∷ (u ++ c ∷ []))) g))
      (fits_skip n (p ++ o ∷ (u ++ c ∷ [])) (path_sites name ++ decls) two)

  pub syntax_fits : {u : List Token} {items : List ItemSyntax} → IsSyntax u items → Good u → Fits u (sites_of items)
  syntax_fits r g = many_fit IsItem item_sites (λ u i h. item_fits h) r g
