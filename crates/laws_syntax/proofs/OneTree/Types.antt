-- What a path, a type and attributes stand for is one, where no key of an annotation stands twice.
use Rattle.std.proofs.Common.{◌≡◌, ℕ, List, ◌∷◌, ◌++◌, Some, refl, sym, ap, ◌∙◌, subst}
use Rattle.std.specs.List.{All}
use Rattle.std.proofs.lemmas.List.Elements.{All-head, All-tail}
use Rattle.cedar_data.specs.Span.{Span}
use Rattle.cedar_data.specs.declared.node.Node.{Node}
use Rattle.cedar_data.proofs.Lists.{All-front, All-back}
use Rattle.schema_syntax_tokens.specs.declared.token.Token.{Token}
use Rattle.schema_syntax_tokens.specs.Escapes.{Unescapes}
use Rattle.cedar_identifiers.specs.declared.annotations.Annotations.{Annotations}
use Rattle.schema_syntax_parser.specs.declared.syntax.AnnotationSyntax.{AnnotationSyntax}
use Rattle.schema_syntax_parser.specs.declared.syntax.PathSyntax.{PathSyntax}
use Rattle.schema_syntax_parser.specs.declared.syntax.TypeSyntax.{TypeSyntax, out-TypeSyntax, out-roll-TypeSyntax}
use Rattle.schema_syntax_parser.specs.declared.syntax.TypeSyntax.TheVariants as syntax
use Rattle.schema_syntax_parser.specs.declared.syntax.TypeSyntax.TheOpen.{TypeSyntax-F}
use Rattle.schema_syntax_parser.specs.declared.syntax.AttrSyntax.{AttrSyntax, out-AttrSyntax}
use Rattle.schema_syntax_tree.specs.declared.path.Path.{Path}
use Rattle.schema_syntax_tree.specs.declared.types.Type.{«Type»}
use Rattle.schema_syntax_tree.specs.declared.types.Type.TheVariants as shape
use Rattle.schema_syntax_tree.specs.declared.types.AttrDecl.{AttrDecl, roll-AttrDecl}
use Rattle.schema_syntax_tree.specs.declared.annotated.Annotated.{Annotated}
use Rattle.schema_syntax_errors.specs.declared.user_error.UserError.{UserError}
use Rattle.schema_syntax_reader.specs.Sites.{Site, annotations, name_sites, sites_of_type}
use Rattle.schema_syntax_reader.specs.Sites.{sites_of_attr, sites_of_attrs}
use Rattle.schema_syntax_reader.specs.UserFaults.{FaultAt}
use Rattle.schema_syntax_reader.specs.Leaves.{AreNotes}
use Rattle.schema_syntax_reader.specs.Trees.{IsId, IsPathOf, IsNameNode, IsTypeOf, AreAttrsOf}
use Rattle.schema_syntax_reader.specs.Trees as tree
use Rattle.schema_syntax_reader.proofs.SiteEquations.{of_set, of_record, of_out_attr}
use Rattle.laws_syntax.proofs.OneTree.Values.{one_zip, one_id, one_name}
use Rattle.laws_syntax.proofs.OneTree.Notes.{one_notes}

module _ (value : (body cs ds : List ℕ) → Unescapes body cs → Unescapes body ds → cs ≡ ds) (text : List ℕ) where
  abbrev pub IsFaultless : Site → Type 0
  IsFaultless site = (fault : UserError) (end : ℕ) → FaultAt text site fault end → ⊥

  abbrev pub Faultless : List Site → Type 0
  Faultless sites = All IsFaultless sites

  pub one_path : (p : PathSyntax) (q r : Path) → IsPathOf text p q → IsPathOf text p r → q ≡ r
  one_path p q r h k =
      let ids : q.ids ≡ r.ids = one_zip (IsId text) (one_id value text) p.names q.ids r.ids h.0 k.0 in
      let loc : q.loc ≡ r.loc = h.1 ∙ sym k.1 in
      λ i. record { ids = ids i; loc = loc i }

  pub one_name_node : (t : Token) (n m : Node (List ℕ)) → IsNameNode text t n → IsNameNode text t m → n ≡ m
  one_name_node t n m h k =
      let node : n.node ≡ m.node = one_name value text t.kind t n.node m.node h.0 k.0 in
      let loc : n.loc ≡ m.loc = h.1 ∙ sym k.1 in
      λ i. record { node = node i; loc = loc i }

  pub one_annotations : (xs : List AnnotationSyntax) (n m : Annotations) → IsFaultless (annotations xs)
      → AreNotes text xs n.0
      → AreNotes text xs m.0 → n ≡ m
  one_annotations xs n m faultless h k =
      let notes : n.0 ≡ m.0 = one_notes value text xs n.0 m.0 faultless h k in
      λ i. record { 0 = notes i }

  -- a node of a type by the form of its syntax
  abbrev View : TypeSyntax-F TypeSyntax AttrSyntax → Node «Type» → Type 0
  View (TypeSyntax-F.Path p) n =
      (q : Path) × (n ≡ record { node = shape.Ident q; loc = Some p.loc }) × IsPathOf text p q
  View (TypeSyntax-F.Set t loc) n =
      (m : Node «Type») × (n ≡ record { node = shape.Set m; loc = Some loc }) × IsTypeOf text t m
  View (TypeSyntax-F.Record xs loc) n =
      (ys : List (Node (Annotated AttrDecl))) × (n ≡ record { node = shape.Record ys; loc = Some loc })
      × AreAttrsOf text xs ys

  form_path : (p : PathSyntax) → out-TypeSyntax (syntax.Path p) ≡ TypeSyntax-F.Path p
  form_path p = ap out-TypeSyntax (sym (syntax.rolls-Path p)) ∙ out-roll-TypeSyntax (TypeSyntax-F.Path p)

  form_set : (t : TypeSyntax) (loc : Span) → out-TypeSyntax (syntax.Set t loc) ≡ TypeSyntax-F.Set t loc
  form_set t loc = ap out-TypeSyntax (sym (syntax.rolls-Set t loc)) ∙ out-roll-TypeSyntax (TypeSyntax-F.Set t loc)

  form_record : (xs : List AttrSyntax) (loc : Span)
      → out-TypeSyntax (syntax.Record xs loc) ≡ TypeSyntax-F.Record xs loc
  form_record xs loc = ap out-TypeSyntax (sym (syntax.rolls-Record xs loc))
      ∙ out-roll-TypeSyntax (TypeSyntax-F.Record xs loc)

  view : {t : TypeSyntax} {n : Node «Type»} → IsTypeOf text t n → View (out-TypeSyntax t) n
  view (tree.path {p = p} {q = q} h) =
      let n : Node «Type» = record { node = shape.Ident q; loc = Some p.loc } in
      subst (λ (x : TypeSyntax-F TypeSyntax AttrSyntax). View x n) (sym (form_path p)) (q, refl, h)
  view (tree.set {t = t} {n = m} loc h) =
      let n : Node «Type» = record { node = shape.Set m; loc = Some loc } in
      subst (λ (x : TypeSyntax-F TypeSyntax AttrSyntax). View x n) (sym (form_set t loc)) (m, refl, h)
  view (tree.attributes {xs = xs} {ys = ys} loc h) =
      let n : Node «Type» = record { node = shape.Record ys; loc = Some loc } in
      subst (λ (x : TypeSyntax-F TypeSyntax AttrSyntax). View x n) (sym (form_record xs loc)) (ys, refl, h)

  mutual
    pub one_type : {t : TypeSyntax} {n : Node «Type»} → IsTypeOf text t n → (m : Node «Type») → IsTypeOf text t m
        → Faultless (sites_of_type t) → n ≡ m
    one_type (tree.path {p = p} {q = q} h) m k f =
        let v : View (TypeSyntax-F.Path p) m = subst (λ (x : TypeSyntax-F TypeSyntax AttrSyntax). View x m)
        (form_path p) (view k) in
        ap (λ r. record { node = shape.Ident r; loc = Some p.loc }) (one_path p q v.0 h v.2) ∙ sym v.1
    one_type (tree.set {t = t} {n = e} loc h) m k f =
        let v : View (TypeSyntax-F.Set t loc) m = subst (λ (x : TypeSyntax-F TypeSyntax AttrSyntax). View x m)
        (form_set t loc) (view k) in
        ap (λ r. record { node = shape.Set r; loc = Some loc })
        (one_type h v.0 v.2 (subst Faultless (of_set t loc) f)) ∙ sym v.1
    one_type (tree.attributes {xs = xs} {ys = ys} loc h) m k f =
        let v : View (TypeSyntax-F.Record xs loc) m = subst (λ (x : TypeSyntax-F TypeSyntax AttrSyntax). View x m)
        (form_record xs loc) (view k) in
        ap (λ r. record { node = shape.Record r; loc = Some loc })
        (one_attrs h v.0 v.2 (subst Faultless (of_record xs loc) f)) ∙ sym v.1

    pub one_attrs : {xs : List AttrSyntax} {ys : List (Node (Annotated AttrDecl))} → AreAttrsOf text xs ys
        → (zs : List (Node (Annotated AttrDecl))) → AreAttrsOf text xs zs → Faultless (sites_of_attrs xs) → ys ≡ zs
    one_attrs tree.none zs tree.none f = refl
    one_attrs (tree.more {x = x} {xs = xs} name ty notes a b c r) zs
        (tree.more {ys = ws} name2 ty2 notes2 a2 b2 c2 r2) f =
        let own : Faultless (annotations (out-AttrSyntax x).annotations
        ∷ (name_sites (out-AttrSyntax x).name ++ sites_of_type (out-AttrSyntax x).ty)) =
        subst Faultless (of_out_attr x) (All-front IsFaultless (sites_of_attr x) (sites_of_attrs xs) f) in
        let first : IsFaultless (annotations (out-AttrSyntax x).annotations) = All-head IsFaultless
        (annotations (out-AttrSyntax x).annotations)
        (name_sites (out-AttrSyntax x).name ++ sites_of_type (out-AttrSyntax x).ty) own in
        let of_ty : Faultless (sites_of_type (out-AttrSyntax x).ty) =
        All-back IsFaultless (name_sites (out-AttrSyntax x).name) (sites_of_type (out-AttrSyntax x).ty)
        (All-tail IsFaultless (annotations (out-AttrSyntax x).annotations)
        (name_sites (out-AttrSyntax x).name ++ sites_of_type (out-AttrSyntax x).ty) own) in
        let e : name ≡ name2 = one_name_node (out-AttrSyntax x).name name name2 a a2 in
        let g : ty ≡ ty2 = one_type b ty2 b2 of_ty in
        let k : notes ≡ notes2 = one_annotations (out-AttrSyntax x).annotations notes notes2 first c c2 in
        let more = one_attrs r ws r2 (All-back IsFaultless (sites_of_attr x) (sites_of_attrs xs) f) in
        λ i. record {
          node = record {
            item = roll-AttrDecl
                (record { name = e i; required = (out-AttrSyntax x).required; ty = g i });
            annotations = k i;
          };
          loc = Some (out-AttrSyntax x).loc;
        } ∷ more i
