-- The parts of a syntax whose tokens are scanned are such.
use Rattle.std.proofs.Common.{◌≡◌, ◌<◌, ℕ, List, [], ◌∷◌, ◌++◌, length, refl, sym, ap, ◌∙◌, subst}
use Rattle.std.proofs.Common.{arith, Option, None, Some, Bool}
use Rattle.std.specs.List.{All}
use Rattle.std.proofs.lemmas.List.Elements.{All-nil, All-cons, All-head}
use Rattle.std.proofs.lemmas.List.{same_from_push}
use Rattle.cedar_data.specs.Span.{Span}
use Rattle.schema_syntax_grammar.specs.declared.token_kind.TokenKind.{TokenKind}
use Rattle.schema_syntax_grammar.specs.Grammar.{is_ident, is_name_kind}
use Rattle.schema_syntax_tokens.specs.declared.token.Token.{Token}
use Rattle.schema_syntax_tokens.specs.Scans.{IsPlaced}
use Rattle.schema_syntax_tokens.specs.TokenLists.{whole_place}
use Rattle.schema_syntax_parser.specs.declared.syntax.PathSyntax.{PathSyntax}
use Rattle.schema_syntax_parser.specs.declared.syntax.TypeSyntax.{TypeSyntax, out-TypeSyntax, out-roll-TypeSyntax}
use Rattle.schema_syntax_parser.specs.declared.syntax.TypeSyntax.TheVariants as syntax
use Rattle.schema_syntax_parser.specs.declared.syntax.TypeSyntax.TheOpen.{TypeSyntax-F, AttrSyntax-F}
use Rattle.schema_syntax_parser.specs.declared.syntax.AttrSyntax.{AttrSyntax, out-AttrSyntax, out-roll-AttrSyntax}
use Rattle.schema_syntax_parser.specs.declared.syntax.AppSyntax.{AppSyntax}
use Rattle.schema_syntax_parser.specs.declared.syntax.AppSyntax.TheVariants.{Types, ContextPath, ContextRecord}
use Rattle.schema_syntax_parser.specs.declared.syntax.DeclSyntax.{DeclSyntax}
use Rattle.schema_syntax_parser.specs.declared.syntax.DeclSyntax.TheVariants as decl
use Rattle.schema_syntax_parser.specs.declared.syntax.DeclaredSyntax.{DeclaredSyntax}
use Rattle.schema_syntax_parser.specs.declared.syntax.ItemSyntax.{ItemSyntax}
use Rattle.schema_syntax_parser.specs.declared.syntax.ItemSyntax.TheVariants as item
use Rattle.schema_syntax_parser.specs.Syntax.{IsChain, AreSeparated, AreListed, AreMany, IsPath, IsRef, AreParents}
use Rattle.schema_syntax_parser.specs.Syntax.{AreAnnotations, IsType, IsRecord, AreAttrs, IsAttr, IsShape, AreTags}
use Rattle.schema_syntax_parser.specs.Syntax.{IsStringToken, IsApp, Applies, IsDecl, IsDeclared, IsItem, IsSyntax}
use Rattle.schema_syntax_parser.specs.Syntax as S
use Rattle.schema_syntax_reader.specs.Sites.{word}
use Rattle.schema_syntax_reader.specs.Placed.{AreScanned, IsScanned, IsPlacedName, IsPlacedSite, IsPlacedString}
use Rattle.schema_syntax_reader.proofs.Fits.{good_left, good_right, good_rest}

module _ (source : List ℕ) where
  abbrev Good : List Token → Type 0
  Good u = AreScanned source u

  abbrev pub IsWord : Token → Type 0
  IsWord t = IsPlacedSite source (word t)

  -- lists of parts
  module _ {A : Type 0} (P : List Token → A → Type 0) where
    abbrev Each : List A → Type 0
    Each xs = All (IsScanned P source) xs

    separated : {u : List Token} {xs : List A} → AreSeparated P u xs → Good u → Each xs
    separated S.none g = All-nil (IsScanned P source)
    separated (S.last {u = u} {x = x} p) g =
        All-cons (IsScanned P source) x [] (u, p, g) (All-nil (IsScanned P source))
    separated (S.more {u = u} {v = v} c {x = x} {xs = xs} p k r) g =
        All-cons (IsScanned P source) x xs (u, p, good_left source u (c ∷ v) g)
        (separated r (good_rest source c v (good_right source u (c ∷ v) g)))

    listed : {u : List Token} {xs : List A} → AreListed P u xs → Good u → Each xs
    listed (S.single {u = u} {x = x} p) g =
        All-cons (IsScanned P source) x [] (u, p, g) (All-nil (IsScanned P source))
    listed (S.listed {o = o} c {u = u} h s k) g =
        separated s (good_left source u (c ∷ []) (good_rest source o (u ++ c ∷ []) g))

    many : {u : List Token} {xs : List A} → AreMany P u xs → Good u → Each xs
    many S.none g = All-nil (IsScanned P source)
    many (S.more {u = u} {v = v} {x = x} {xs = xs} p r) g =
        All-cons (IsScanned P source) x xs (u, p, good_left source u v g) (many r (good_right source u v g))

  parents : {P : List Token → PathSyntax → Type 0} {u : List Token} {ps : List PathSyntax} → AreParents P u ps
      → Good u → All (IsScanned P source) ps
  parents {P} S.no_parents g = All-nil (IsScanned P source)
  parents {P} (S.in_parents {i = i} {u = u} h l) g = listed P l (good_rest source i u g)

  -- names
  chain_some : {k : TokenKind} {is : TokenKind → Bool} {u names : List Token} → IsChain k is u names
      → 0 < length names
  chain_some (S.one h) = omega arith
  chain_some (S.more h k r) = omega arith

  words : {k : TokenKind} {u names : List Token} → IsChain k is_ident u names → Good u → All IsWord names
  words (S.one {t = t} h) g = All-cons IsWord t [] (All-head (IsPlaced source) t [] g.placed, h) (All-nil IsWord)
  words (S.more {t = t} {s = s} {u = u} {names = names} h k r) g =
      All-cons IsWord t names (All-head (IsPlaced source) t (s ∷ u) g.placed, h)
      (words r (good_rest source s u (good_rest source t (s ∷ u) g)))

  names : {k : TokenKind} {u names : List Token} → IsChain k is_name_kind u names → Good u
      → All (IsPlacedName source) names
  names (S.one {t = t} h) g =
      All-cons (IsPlacedName source) t [] (All-head (IsPlaced source) t [] g.placed, h) (All-nil (IsPlacedName source))
  names (S.more {t = t} {s = s} {u = u} {names = others} h k r) g =
      All-cons (IsPlacedName source) t others (All-head (IsPlaced source) t (s ∷ u) g.placed, h)
      (names r (good_rest source s u (good_rest source t (s ∷ u) g)))

  -- the names of a path
  pub record PathParts (p : PathSyntax) : Type 0 where
    pub words : All IsWord p.names
    pub some : 0 < length p.names

  path_of : {u : List Token} {p : PathSyntax} → IsPath u p → Good u → PathParts p
  path_of (S.path c) g = record { words = words c g; some = chain_some c }

  pub path_parts : (p : PathSyntax) → IsScanned IsPath source p → PathParts p
  path_parts p h = path_of h.1 h.2

  -- the names of a reference: the last is any name, and those before it are words
  record RefParts (p : PathSyntax) : Type 0 where
    front : List Token
    last : Token
    split : p.names ≡ front ++ last ∷ []
    words : All IsWord front
    name : IsPlacedName source last

  ref_of : {u : List Token} {p : PathSyntax} → IsRef u p → Good u → RefParts p
  ref_of (S.plain {t = t} h) g = record {
    front = [];
    last = t;
    split = refl;
    words = All-nil IsWord;
    name = (All-head (IsPlaced source) t [] g.placed, h);
  }
  ref_of (S.typed {u = u} {names = front} s q c k l) g = record {
    front = front;
    last = q;
    split = refl;
    words = words c (good_left source u (s ∷ q ∷ []) g);
    name = (
      All-head (IsPlaced source) q [] (good_rest source s (q ∷ []) (good_right source u (s ∷ q ∷ []) g)).placed,
      rw l refl,
    );
  }

  pub ref_parts : (p : PathSyntax) → IsScanned IsRef source p → (front : List Token) (last : Token)
      → p.names ≡ front ++ last ∷ [] → All IsWord front × IsPlacedName source last
  ref_parts p h front last split =
      let r = ref_of h.1 h.2 in
      let same = same_from_push r.front front r.last last (sym r.split ∙ split) in
      (subst (All IsWord) same.0 r.words, subst (IsPlacedName source) same.1 r.name)

  string : {u : List Token} {t : Token} → IsStringToken u t → Good u → IsPlacedString source t
  string (S.string {t = t} h) g = (All-head (IsPlaced source) t [] g.placed, h)

  strings : {u : List Token} {choices : List Token} → AreSeparated IsStringToken u choices → Good u
      → All (IsPlacedString source) choices
  strings S.none g = All-nil (IsPlacedString source)
  strings (S.last {x = x} p) g = All-cons (IsPlacedString source) x [] (string p g) (All-nil (IsPlacedString source))
  strings (S.more {u = u} {v = v} c {x = x} {xs = xs} p k r) g =
      All-cons (IsPlacedString source) x xs (string p (good_left source u (c ∷ v) g))
      (strings r (good_rest source c v (good_right source u (c ∷ v) g)))

  -- types
  attrs_of : {u : List Token} {xs : List AttrSyntax} → AreAttrs u xs → Good u → All (IsScanned IsAttr source) xs
  attrs_of S.no_attr g = All-nil (IsScanned IsAttr source)
  attrs_of (S.last_attr {u = u} {a = a} p) g =
      All-cons (IsScanned IsAttr source) a [] (u, p, g) (All-nil (IsScanned IsAttr source))
  attrs_of (S.more_attrs {u = u} {v = v} c {a = a} {xs = xs} p k r) g =
      All-cons (IsScanned IsAttr source) a xs (u, p, good_left source u (c ∷ v) g)
      (attrs_of r (good_rest source c v (good_right source u (c ∷ v) g)))

  record_of : {u : List Token} {xs : List AttrSyntax} → IsRecord u xs → Good u → All (IsScanned IsAttr source) xs
  record_of (S.braces {o = o} c {u = u} ko r kc) g =
      attrs_of r (good_left source u (c ∷ []) (good_rest source o (u ++ c ∷ []) g))

  -- the parts of a type
  abbrev pub TypeParts : TypeSyntax-F TypeSyntax AttrSyntax → Type 0
  TypeParts (TypeSyntax-F.Path p) = IsScanned IsPath source p
  TypeParts (TypeSyntax-F.Set element loc) = IsScanned IsType source element
  TypeParts (TypeSyntax-F.Record attrs loc) = All (IsScanned IsAttr source) attrs

  type_of : {u : List Token} {t : TypeSyntax} → IsType u t → Good u → TypeParts (out-TypeSyntax t)
  type_of (S.path_type {u = u} {p = p} r) g =
      subst TypeParts (sym (ap out-TypeSyntax (sym (syntax.rolls-Path p)) ∙ out-roll-TypeSyntax (TypeSyntax-F.Path p)))
      (u, r, g)
  type_of (S.set_type {s = s} {o = o} c {u = u} {t = t} ks ko r kc) g =
      let loc = whole_place (s ∷ o ∷ (u ++ c ∷ [])) in
      subst TypeParts
      (sym (ap out-TypeSyntax (sym (syntax.rolls-Set t loc)) ∙ out-roll-TypeSyntax (TypeSyntax-F.Set t loc))) (
        u,
        r,
        good_left source u (c ∷ [])
            (good_rest source o (u ++ c ∷ []) (good_rest source s (o ∷ (u ++ c ∷ [])) g)),
      )
  type_of (S.record_type {u = u} {xs = xs} r) g =
      subst TypeParts
      (sym (ap out-TypeSyntax (sym (syntax.rolls-Record xs (whole_place u)))
      ∙ out-roll-TypeSyntax (TypeSyntax-F.Record xs (whole_place u))))
      (record_of r g)

  type_parts : (t : TypeSyntax) → IsScanned IsType source t → TypeParts (out-TypeSyntax t)
  type_parts t h = type_of h.1 h.2

  pub path_part : (t : TypeSyntax) (p : PathSyntax) → t ≡ syntax.Path p → IsScanned IsType source t
      → IsScanned IsPath source p
  path_part t p e h =
      subst TypeParts
      (ap out-TypeSyntax e ∙ ap out-TypeSyntax (sym (syntax.rolls-Path p)) ∙ out-roll-TypeSyntax (TypeSyntax-F.Path p))
      (type_parts t h)

  pub set_part : (t element : TypeSyntax) (loc : Span) → t ≡ syntax.Set element loc → IsScanned IsType source t
      → IsScanned IsType source element
  set_part t element loc e h =
      subst TypeParts
      (ap out-TypeSyntax e ∙ ap out-TypeSyntax (sym (syntax.rolls-Set element loc))
      ∙ out-roll-TypeSyntax (TypeSyntax-F.Set element loc))
      (type_parts t h)

  pub record_part : (t : TypeSyntax) (xs : List AttrSyntax) (loc : Span) → t ≡ syntax.Record xs loc
      → IsScanned IsType source t → All (IsScanned IsAttr source) xs
  record_part t xs loc e h =
      subst TypeParts
      (ap out-TypeSyntax e ∙ ap out-TypeSyntax (sym (syntax.rolls-Record xs loc))
      ∙ out-roll-TypeSyntax (TypeSyntax-F.Record xs loc))
      (type_parts t h)

  -- the parts of an attribute
  pub record AttrParts (a : AttrSyntax-F TypeSyntax AttrSyntax) : Type 0 where
    pub notes : IsScanned AreAnnotations source a.annotations
    pub name : IsPlacedName source a.name
    pub ty : IsScanned IsType source a.ty

  attr_of : {u : List Token} {a : AttrSyntax} → IsAttr u a → Good u → AttrParts (out-AttrSyntax a)
  attr_of (S.attr n c {a = a} {m = m} {u = u} p h mk k r) g =
      let rest = good_right source a (n ∷ (m ++ c ∷ u)) g in
      let behind = good_right source m (c ∷ u) (good_rest source n (m ++ c ∷ u) rest) in
      subst AttrParts (sym (out-roll-AttrSyntax _)) (record {
        notes = (a, p, good_left source a (n ∷ (m ++ c ∷ u)) g);
        name = (All-head (IsPlaced source) n (m ++ c ∷ u) rest.placed, h);
        ty = (u, r, good_rest source c u behind);
      })

  pub attr_parts : (a : AttrSyntax) → IsScanned IsAttr source a → AttrParts (out-AttrSyntax a)
  attr_parts a h = attr_of h.1 h.2

  abbrev pub ShapeParts : Option (List AttrSyntax × Span) → Type 0
  ShapeParts None = Unit {0}
  ShapeParts (Some r) = All (IsScanned IsAttr source) r.0

  shape_of : {u : List Token} {s : Option (List AttrSyntax × Span)} → IsShape u s → Good u → ShapeParts s
  shape_of S.no_shape g = tt
  shape_of (S.bare_shape r) g = record_of r g
  shape_of (S.equals_shape {e = e} {u = u} h r) g = record_of r (good_rest source e u g)

  pub shape_parts : (s : Option (List AttrSyntax × Span)) → IsScanned IsShape source s → ShapeParts s
  shape_parts s h = shape_of h.1 h.2

  abbrev pub TagsParts : Option TypeSyntax → Type 0
  TagsParts None = Unit {0}
  TagsParts (Some t) = IsScanned IsType source t

  tags_of : {u : List Token} {t : Option TypeSyntax} → AreTags u t → Good u → TagsParts t
  tags_of S.no_tags g = tt
  tags_of (S.some_tags {w = w} {u = u} h r) g = (u, r, good_rest source w u g)

  pub tags_parts : (t : Option TypeSyntax) → IsScanned AreTags source t → TagsParts t
  tags_parts t h = tags_of h.1 h.2

  -- members of an `appliesTo` block
  abbrev pub AppParts : AppSyntax → Type 0
  AppParts (Types kind paths loc) = All (IsScanned IsPath source) paths
  AppParts (ContextPath p loc) = IsScanned IsPath source p
  AppParts (ContextRecord attrs record_loc loc) = All (IsScanned IsAttr source) attrs

  app_of : {u : List Token} {a : AppSyntax} → IsApp u a → Good u → AppParts a
  app_of (S.types {w = w} {c = c} {u = u} h k l) g =
      listed IsPath l (good_rest source c u (good_rest source w (c ∷ u) g))
  app_of (S.context_path {w = w} {c = c} {u = u} h k r) g =
      (u, r, good_rest source c u (good_rest source w (c ∷ u) g))
  app_of (S.context_record {w = w} {c = c} {u = u} h k r) g =
      record_of r (good_rest source c u (good_rest source w (c ∷ u) g))

  pub app_parts : (a : AppSyntax) → IsScanned IsApp source a → AppParts a
  app_parts a h = app_of h.1 h.2

  abbrev pub AppliesParts : Option (List AppSyntax × Span) → Type 0
  AppliesParts None = Unit {0}
  AppliesParts (Some r) = All (IsScanned IsApp source) r.0

  applies_of : {u : List Token} {s : Option (List AppSyntax × Span)} → Applies u s → Good u → AppliesParts s
  applies_of S.no_applies g = tt
  applies_of (S.some_applies {w = w} {o = o} c {u = u} h ko s k) g =
      separated IsApp s
      (good_left source u (c ∷ []) (good_rest source o (u ++ c ∷ []) (good_rest source w (o ∷ (u ++ c ∷ [])) g)))

  pub applies_parts : (s : Option (List AppSyntax × Span)) → IsScanned Applies source s → AppliesParts s
  applies_parts s h = applies_of h.1 h.2

  -- declarations
  abbrev Ids : List Token → Type 0
  Ids names = All IsWord names × (0 < length names)

  abbrev Names : List Token → Type 0
  Names names = All (IsPlacedName source) names × (0 < length names)

  abbrev pub DeclParts : DeclSyntax → Type 0
  DeclParts (decl.Entity names parents shape tags) =
      Ids names × All (IsScanned IsPath source) parents × IsScanned IsShape source shape × IsScanned AreTags source tags
  DeclParts (decl.Enum names choices brackets) = Ids names × All (IsPlacedString source) choices
  DeclParts (decl.ExternalEntity names parents) = Ids names × All (IsScanned IsPath source) parents
  DeclParts (decl.Action names parents applies) =
      Names names × All (IsScanned IsRef source) parents × IsScanned Applies source applies
  DeclParts (decl.ExternalAction names parents) = Names names × All (IsScanned IsRef source) parents
  DeclParts (decl.Common name ty) = IsWord name × IsScanned IsType source ty

  decl_of : {u : List Token} {d : DeclSyntax} → IsDecl u d → Good u → DeclParts d
  decl_of (S.entity_decl {e = e} z {i = i} {p = p} {s = s} {t = t} h is ps sh ts k) g =
      let g1 = good_rest source e (i ++ (p ++ (s ++ (t ++ z ∷ [])))) g in
      let g2 = good_right source i (p ++ (s ++ (t ++ z ∷ []))) g1 in
      let g3 = good_right source p (s ++ (t ++ z ∷ [])) g2 in
      let g4 = good_right source s (t ++ z ∷ []) g3 in (
        (words is (good_left source i (p ++ (s ++ (t ++ z ∷ []))) g1), chain_some is),
        parents ps (good_left source p (s ++ (t ++ z ∷ [])) g2),
        (s, sh, good_left source s (t ++ z ∷ []) g3),
        (t, ts, good_left source t (z ∷ []) g4),
      )
  decl_of (S.enum_decl {e = e} n o c z {i = i} {s = s} h is kn ko ss kc kz) g =
      let g1 = good_rest source e (i ++ n ∷ o ∷ (s ++ c ∷ z ∷ [])) g in
      let g2 = good_rest source n (o ∷ (s ++ c ∷ z ∷ [])) (good_right source i (n ∷ o ∷ (s ++ c ∷ z ∷ [])) g1) in
      let g3 = good_left source s (c ∷ z ∷ []) (good_rest source o (s ++ c ∷ z ∷ []) g2) in (
        (words is (good_left source i (n ∷ o ∷ (s ++ c ∷ z ∷ [])) g1), chain_some is),
        strings ss g3,
      )
  decl_of (S.external_entity {x = x} {e = e} z {i = i} {p = p} h he is ps k) g =
      let g1 = good_rest source e (i ++ (p ++ z ∷ [])) (good_rest source x (e ∷ (i ++ (p ++ z ∷ []))) g) in
      let g2 = good_right source i (p ++ z ∷ []) g1 in (
        (words is (good_left source i (p ++ z ∷ []) g1), chain_some is),
        parents ps (good_left source p (z ∷ []) g2),
      )
  decl_of (S.action_decl {a = a} z {n = n} {r = r} {s = s} h is ps as' k) g =
      let g1 = good_rest source a (n ++ (r ++ (s ++ z ∷ []))) g in
      let g2 = good_right source n (r ++ (s ++ z ∷ [])) g1 in
      let g3 = good_right source r (s ++ z ∷ []) g2 in (
        (names is (good_left source n (r ++ (s ++ z ∷ [])) g1), chain_some is),
        parents ps (good_left source r (s ++ z ∷ []) g2),
        (s, as', good_left source s (z ∷ []) g3),
      )
  decl_of (S.external_action {x = x} {a = a} z {n = n} {r = r} h ha is ps k) g =
      let g1 = good_rest source a (n ++ (r ++ z ∷ [])) (good_rest source x (a ∷ (n ++ (r ++ z ∷ []))) g) in
      let g2 = good_right source n (r ++ z ∷ []) g1 in (
        (names is (good_left source n (r ++ z ∷ []) g1), chain_some is),
        parents ps (good_left source r (z ∷ []) g2),
      )
  decl_of (S.common_decl {w = w} {n = n} {e = e} z {u = u} h hn he r k) g =
      let g1 = good_rest source w (n ∷ e ∷ (u ++ z ∷ [])) g in
      let g2 = good_rest source e (u ++ z ∷ []) (good_rest source n (e ∷ (u ++ z ∷ [])) g1) in (
        (All-head (IsPlaced source) n (e ∷ (u ++ z ∷ [])) g1.placed, hn),
        (u, r, good_left source u (z ∷ []) g2),
      )

  pub decl_parts : (d : DeclSyntax) → IsScanned IsDecl source d → DeclParts d
  decl_parts d h = decl_of h.1 h.2

  pub record DeclaredParts (d : DeclaredSyntax) : Type 0 where
    pub notes : IsScanned AreAnnotations source d.annotations
    pub body : IsScanned IsDecl source d.decl

  declared_of : {u : List Token} {d : DeclaredSyntax} → IsDeclared u d → Good u → DeclaredParts d
  declared_of (S.declared {a = a} {u = u} p r) g =
      record { notes = (a, p, good_left source a u g); body = (u, r, good_right source a u g) }

  pub declared_parts : (d : DeclaredSyntax) → IsScanned IsDeclared source d → DeclaredParts d
  declared_parts d h = declared_of h.1 h.2

  abbrev pub ItemParts : ItemSyntax → Type 0
  ItemParts (item.Namespace notes name decls loc) =
      IsScanned AreAnnotations source notes × IsScanned IsPath source name × All (IsScanned IsDeclared source) decls
  ItemParts (item.Decl d) = IsScanned IsDeclared source d

  item_of : {u : List Token} {i : ItemSyntax} → IsItem u i → Good u → ItemParts i
  item_of (S.outside {u = u} d) g = (u, d, g)
  item_of (S.namespace n o c {a = a} {p = p} {u = u} r hn ps ho ds hc) g =
      let g1 = good_rest source n (p ++ o ∷ (u ++ c ∷ [])) (good_right source a (n ∷ (p ++ o ∷ (u ++ c ∷ []))) g) in
      let g2 = good_rest source o (u ++ c ∷ []) (good_right source p (o ∷ (u ++ c ∷ [])) g1) in (
        (a, r, good_left source a (n ∷ (p ++ o ∷ (u ++ c ∷ []))) g),
        (p, ps, good_left source p (o ∷ (u ++ c ∷ [])) g1),
        many IsDeclared ds (good_left source u (c ∷ []) g2),
      )

  pub item_parts : (i : ItemSyntax) → IsScanned IsItem source i → ItemParts i
  item_parts i h = item_of h.1 h.2

  pub items_scanned : (tokens : List Token) (items : List ItemSyntax) → IsSyntax tokens items → AreScanned source tokens
      → All (IsScanned IsItem source) items
  items_scanned tokens items h g = many IsItem h g
