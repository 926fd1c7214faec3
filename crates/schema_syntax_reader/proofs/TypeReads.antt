-- What is read of types and attributes.
use Rattle.std.proofs.Common.{◌≡◌, ℕ, List, [], ◌∷◌, ◌++◌, Some, sym, ap, ◌∙◌, subst}
use Rattle.std.specs.List.{AllZip}
use Rattle.cedar_data.specs.Span.{Span}
use Rattle.cedar_data.specs.declared.node.Node.{Node}
use Rattle.schema_syntax_parser.specs.declared.syntax.PathSyntax.{PathSyntax}
use Rattle.schema_syntax_parser.specs.declared.syntax.TypeSyntax.{TypeSyntax}
use Rattle.schema_syntax_parser.specs.declared.syntax.TypeSyntax.TheVariants as syntax
use Rattle.schema_syntax_parser.specs.declared.syntax.AttrSyntax.{AttrSyntax, out-AttrSyntax}
use Rattle.schema_syntax_tree.specs.declared.annotated.Annotated.{Annotated}
use Rattle.schema_syntax_tree.specs.declared.path.Path.{Path}
use Rattle.schema_syntax_tree.specs.declared.types.Type.{«Type»}
use Rattle.schema_syntax_tree.specs.declared.types.Type.TheVariants.{Set, Ident, Record}
use Rattle.schema_syntax_tree.specs.declared.types.AttrDecl.{AttrDecl}
use Rattle.schema_syntax_reader.specs.declared.stopped.Stopped.{Stopped}
use Rattle.schema_syntax_reader.specs.Sites.{annotations, name_sites, path_sites, sites_of_type, sites_of_attr}
use Rattle.schema_syntax_reader.specs.Sites.{sites_of_attrs}
use Rattle.schema_syntax_reader.specs.Stops.{IsStopped}
use Rattle.schema_syntax_reader.specs.Readings.{IsAttrOf}
use Rattle.schema_syntax_reader.specs.Trees.{IsPathOf, IsTypeOf, AreAttrsOf, none, more}
use Rattle.schema_syntax_reader.specs.Trees as tree
use Rattle.schema_syntax_reader.proofs.Readings.{Faultless, stopped_left, stopped_right, both_faultless}
use Rattle.schema_syntax_reader.proofs.SiteEquations.{of_path, of_set, of_record, of_out_attr}

module _ (source : List ℕ) where
  -- types
  pub path_typed : (t : TypeSyntax) (p : PathSyntax) (q : Path) → t ≡ syntax.Path p → IsPathOf source p q
      → Faultless source (path_sites p)
      → IsTypeOf source t (record { node = Ident q; loc = Some p.loc }) × Faultless source (sites_of_type t)
  path_typed t p q e is all =
      subst (λ x. IsTypeOf source x (record { node = Ident q; loc = Some p.loc }) × Faultless source (sites_of_type x))
      (sym e) (tree.path is, subst (Faultless source) (sym (of_path p)) all)

  pub set_typed : (t element : TypeSyntax) (loc : Span) (n : Node «Type») → t ≡ syntax.Set element loc
      → IsTypeOf source element n → Faultless source (sites_of_type element)
      → IsTypeOf source t (record { node = Set n; loc = Some loc }) × Faultless source (sites_of_type t)
  set_typed t element loc n e is all =
      subst (λ x. IsTypeOf source x (record { node = Set n; loc = Some loc }) × Faultless source (sites_of_type x))
      (sym e) (tree.set loc is, subst (Faultless source) (sym (of_set element loc)) all)

  pub record_typed : (t : TypeSyntax) (xs : List AttrSyntax) (loc : Span)
      (ys : List (Node (Annotated AttrDecl))) → t ≡ syntax.Record xs loc
      → AreAttrsOf source xs ys → Faultless source (sites_of_attrs xs)
      → IsTypeOf source t (record { node = Record ys; loc = Some loc }) × Faultless source (sites_of_type t)
  record_typed t xs loc ys e is all =
      subst (λ x. IsTypeOf source x (record { node = Record ys; loc = Some loc }) × Faultless source (sites_of_type x))
      (sym e) (tree.attributes loc is, subst (Faultless source) (sym (of_record xs loc)) all)

  pub record_stops : (t : TypeSyntax) (xs : List AttrSyntax) (loc : Span) (e : Stopped) → t ≡ syntax.Record xs loc
      → IsStopped source (sites_of_attrs xs) e → IsStopped source (sites_of_type t) e
  record_stops t xs loc e is h = subst (λ l. IsStopped source l e) (sym (ap sites_of_type is ∙ of_record xs loc)) h

  -- attributes, one by one
  pub attrs_are : (xs : List AttrSyntax) (ys : List (Node (Annotated AttrDecl))) → AllZip (IsAttrOf source) xs ys
      → AreAttrsOf source xs ys
  attrs_are [] [] h = none
  attrs_are [] (y ∷ ys) h = absurd h
  attrs_are (x ∷ xs) [] h = absurd h
  attrs_are (x ∷ xs) (y ∷ ys) h =
      let a = h.0 in
      subst (λ n. AreAttrsOf source (x ∷ xs) (n ∷ ys)) (sym a.6)
      (more a.0 a.1 a.2 a.3 a.4 a.5 (attrs_are xs ys h.1))

  module _ (a : AttrSyntax) where
    pub stops_at_notes : (e : Stopped) → IsStopped source (annotations (out-AttrSyntax a).annotations ∷ []) e
        → IsStopped source (sites_of_attr a) e
    stops_at_notes e h = subst (λ l. IsStopped source l e) (sym (of_out_attr a))
        (stopped_left source (annotations (out-AttrSyntax a).annotations ∷ [])
        (name_sites (out-AttrSyntax a).name ++ sites_of_type (out-AttrSyntax a).ty) e h)

    module _ (noted : Faultless source (annotations (out-AttrSyntax a).annotations ∷ [])) where
      pub stops_at_name : (e : Stopped) → IsStopped source (name_sites (out-AttrSyntax a).name) e
          → IsStopped source (sites_of_attr a) e
      stops_at_name e h = subst (λ l. IsStopped source l e) (sym (of_out_attr a))
          (stopped_right source (annotations (out-AttrSyntax a).annotations ∷ [])
          (name_sites (out-AttrSyntax a).name ++ sites_of_type (out-AttrSyntax a).ty) e noted
          (stopped_left source (name_sites (out-AttrSyntax a).name) (sites_of_type (out-AttrSyntax a).ty) e h))

      module _ (named : Faultless source (name_sites (out-AttrSyntax a).name)) where
        pub stops_at_type : (e : Stopped) → IsStopped source (sites_of_type (out-AttrSyntax a).ty) e
            → IsStopped source (sites_of_attr a) e
        stops_at_type e h = subst (λ l. IsStopped source l e) (sym (of_out_attr a))
            (stopped_right source (annotations (out-AttrSyntax a).annotations ∷ [])
            (name_sites (out-AttrSyntax a).name ++ sites_of_type (out-AttrSyntax a).ty) e noted
            (stopped_right source (name_sites (out-AttrSyntax a).name) (sites_of_type (out-AttrSyntax a).ty) e named
            h))

        pub attr_faultless : Faultless source (sites_of_type (out-AttrSyntax a).ty)
            → Faultless source (sites_of_attr a)
        attr_faultless typed = subst (Faultless source) (sym (of_out_attr a))
            (both_faultless source (annotations (out-AttrSyntax a).annotations ∷ [])
            (name_sites (out-AttrSyntax a).name ++ sites_of_type (out-AttrSyntax a).ty) noted
            (both_faultless source (name_sites (out-AttrSyntax a).name) (sites_of_type (out-AttrSyntax a).ty) named
            typed))
