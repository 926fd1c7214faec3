-- A lawful syntax has one tree.
use Rattle.std.proofs.Common.{◌≡◌, ℕ, List, [], ◌∷◌, ◌++◌, Option, Some, None, refl, sym, ap, ◌∙◌, subst}
use Rattle.std.specs.List.{All, AllZip, flat_map}
use Rattle.std.proofs.lemmas.List.{append_assoc, same_from_push}
use Rattle.std.proofs.lemmas.List.Elements.{All-nil, All-cons, All-head, All-tail}
use Rattle.cedar_data.specs.Span.{Span}
use Rattle.cedar_data.specs.declared.node.Node.{Node}
use Rattle.cedar_data.proofs.Lists.{All-front, All-back}
use Rattle.schema_syntax_tokens.specs.declared.token.Token.{Token}
use Rattle.schema_syntax_tokens.specs.Escapes.{Unescapes}
use Rattle.cedar_identifiers.specs.declared.id.Id.{Id}
use Rattle.schema_syntax_parser.specs.declared.syntax.PathSyntax.{PathSyntax}
use Rattle.schema_syntax_parser.specs.declared.syntax.TypeSyntax.{TypeSyntax}
use Rattle.schema_syntax_parser.specs.declared.syntax.AttrSyntax.{AttrSyntax}
use Rattle.schema_syntax_parser.specs.declared.syntax.AppSyntax.{AppSyntax}
use Rattle.schema_syntax_parser.specs.declared.syntax.AppSyntax.TheVariants.{Types, ContextPath, ContextRecord}
use Rattle.schema_syntax_parser.specs.declared.syntax.DeclSyntax.{DeclSyntax}
use Rattle.schema_syntax_parser.specs.declared.syntax.DeclSyntax.TheVariants as decl
use Rattle.schema_syntax_parser.specs.declared.syntax.DeclaredSyntax.{DeclaredSyntax}
use Rattle.schema_syntax_parser.specs.declared.syntax.ItemSyntax.{ItemSyntax}
use Rattle.schema_syntax_parser.specs.declared.syntax.ItemSyntax.TheVariants as item
use Rattle.schema_syntax_tree.specs.declared.path.Path.{Path}
use Rattle.schema_syntax_tree.specs.declared.types.Type.{«Type»}
use Rattle.schema_syntax_tree.specs.declared.types.AttrDecl.{AttrDecl}
use Rattle.schema_syntax_tree.specs.declared.annotated.Annotated.{Annotated}
use Rattle.schema_syntax_tree.specs.declared.app_decl.AppDecl.{AppDecl}
use Rattle.schema_syntax_tree.specs.declared.app_decl.AppDecl.TheVariants as app
use Rattle.schema_syntax_tree.specs.declared.either.Either.TheVariants.{Left, Right}
use Rattle.schema_syntax_tree.specs.declared.qual_name.QualName.{QualName}
use Rattle.schema_syntax_tree.specs.declared.declaration.Declaration.{Declaration}
use Rattle.schema_syntax_tree.specs.declared.declaration.Declaration.TheVariants as declaration
use Rattle.schema_syntax_tree.specs.declared.entity_decl.EntityDecl.TheVariants as entity
use Rattle.schema_syntax_tree.specs.declared.action_decl.ActionDecl.TheVariants as action
use Rattle.schema_syntax_tree.specs.declared.namespace.Namespace.{Namespace}
use Rattle.schema_syntax_reader.specs.Sites.{Site, annotations, name_sites, names_sites, path_sites, paths_sites}
use Rattle.schema_syntax_reader.specs.Sites.{sites_of_type, shape_sites, tags_sites, app_sites, apps_sites}
use Rattle.schema_syntax_reader.specs.Sites.{applies_sites, decl_sites, declared_sites, item_sites, sites_of}
use Rattle.schema_syntax_reader.specs.UserFaults.{IsLawful}
use Rattle.schema_syntax_reader.specs.Trees.{IsId, IsIdNode, IsNameNode, IsChoice, IsPathOf, role_of, IsNameOf}
use Rattle.schema_syntax_reader.specs.Trees.{IsOptional, IsTypeOfRef, IsRefOf, IsShapeOf, AreTagsOf, IsAppOf, AppliesOf}
use Rattle.schema_syntax_reader.specs.Trees.{IsDeclOf, IsDeclaredOf, IsItemOf, IsTreeOf}
use Rattle.laws_syntax.proofs.OneTree.Values.{one_zip, one_id, one_name, one_string}
use Rattle.laws_syntax.proofs.OneTree.Types.{IsFaultless, Faultless, one_path, one_name_node}
use Rattle.laws_syntax.proofs.OneTree.Types.{one_annotations, one_type, one_attrs}

-- lists whose parts are the same wherever these are faultless
faultless_zip : {A B : Type 0} (F : Site → Type 0) (sites : A → List Site) (R : A → B → Type 0)
    → ((a : A) (b c : B) → All F (sites a) → R a b → R a c → b ≡ c)
    → (xs : List A) (ys zs : List B) → All F (flat_map sites xs) → AllZip R xs ys → AllZip R xs zs → ys ≡ zs
faultless_zip F sites R one [] [] [] f h k = refl
faultless_zip F sites R one [] [] (z ∷ zs) f h k = absurd k
faultless_zip F sites R one [] (y ∷ ys) zs f h k = absurd h
faultless_zip F sites R one (x ∷ xs) [] zs f h k = absurd h
faultless_zip F sites R one (x ∷ xs) (y ∷ ys) [] f h k = absurd k
faultless_zip F sites R one (x ∷ xs) (y ∷ ys) (z ∷ zs) f (h, hs) (k, ks) =
    let first : y ≡ z = one x y z (All-front F (sites x) (flat_map sites xs) f) h k in
    let more : ys ≡ zs = faultless_zip F sites R one xs ys zs (All-back F (sites x) (flat_map sites xs) f) hs ks in
    λ i. first i ∷ more i

module _ (value : (body cs ds : List ℕ) → Unescapes body cs → Unescapes body ds → cs ≡ ds) (text : List ℕ) where
  one_id_node : (t : Token) (n m : Node Id) → IsIdNode text t n → IsIdNode text t m → n ≡ m
  one_id_node t n m h k =
      let node : n.node ≡ m.node = one_id value text t n.node m.node h.0 k.0 in
      let loc : n.loc ≡ m.loc = h.1 ∙ sym k.1 in
      λ i. record { node = node i; loc = loc i }

  one_choice : (t : Token) (n m : Node (List ℕ)) → IsChoice text t n → IsChoice text t m → n ≡ m
  one_choice t n m h k =
      let node : n.node ≡ m.node = one_string value text t n.node m.node h.0 k.0 in
      let loc : n.loc ≡ m.loc = h.1 ∙ sym k.1 in
      λ i. record { node = node i; loc = loc i }

  one_optional : {A B : Type 0} (R : List A → List B → Type 0)
      → ((xs : List A) (ys zs : List B) → R xs ys → R xs zs → ys ≡ zs)
      → (xs : List A) (found other : Option (List B)) → IsOptional text R xs found → IsOptional text R xs other
      → found ≡ other
  one_optional R one [] found other h k = h ∙ sym k
  one_optional R one (x ∷ xs) None other h k = absurd h
  one_optional R one (x ∷ xs) (Some ys) None h k = absurd k
  one_optional R one (x ∷ xs) (Some ys) (Some zs) h k = ap Some (one (x ∷ xs) ys zs h k)

  one_ref_type : (ts : List Token) (found other : Option Path) → IsTypeOfRef text ts found → IsTypeOfRef text ts other
      → found ≡ other
  one_ref_type [] found other h k = h ∙ sym k
  one_ref_type (t ∷ ts) None other h k = absurd h
  one_ref_type (t ∷ ts) (Some p) None h k = absurd k
  one_ref_type (t ∷ ts) (Some p) (Some q) h k =
      let ids : p.ids ≡ q.ids = one_zip (IsId text) (one_id value text) (t ∷ ts) p.ids q.ids h.0 k.0 in
      let loc : p.loc ≡ q.loc = h.1 ∙ sym k.1 in
      λ i. Some (record { ids = ids i; loc = loc i })

  one_ref : (p : PathSyntax) (n m : Node QualName) → IsRefOf text p n → IsRefOf text p m → n ≡ m
  one_ref p n m (front, last, split, id, ty, loc) (front2, last2, split2, id2, ty2, loc2) =
      let same = same_from_push front front2 last last2 (sym split ∙ split2) in
      let eid : n.node.eid ≡ m.node.eid = one_name value text last.kind last n.node.eid m.node.eid id
      (subst (λ (t : Token). IsNameOf text t.kind t m.node.eid) (sym same.1) id2) in
      let path : n.node.path ≡ m.node.path = one_ref_type front n.node.path m.node.path ty
      (subst (λ ts. IsTypeOfRef text ts m.node.path) (sym same.0) ty2) in
      let place : n.loc ≡ m.loc = loc ∙ sym loc2 in
      λ i. record { node = record { path = path i; eid = eid i }; loc = place i }

  abbrev Fine : List Site → Type 0
  Fine = Faultless value text

  one_shape : (x : Option (List AttrSyntax × Span)) (n m : Node (List (Node (Annotated AttrDecl))))
      → Fine (shape_sites x)
      → IsShapeOf text x n → IsShapeOf text x m → n ≡ m
  one_shape None n m f h k =
      let node : n.node ≡ m.node = h.0 ∙ sym k.0 in
      let loc : n.loc ≡ m.loc = h.1 ∙ sym k.1 in
      λ i. record { node = node i; loc = loc i }
  one_shape (Some r) n m f h k =
      let node : n.node ≡ m.node = one_attrs value text h.0 m.node k.0 f in
      let loc : n.loc ≡ m.loc = h.1 ∙ sym k.1 in
      λ i. record { node = node i; loc = loc i }

  one_tags : (x : Option TypeSyntax) (n m : Option (Node «Type»)) → Fine (tags_sites x) → AreTagsOf text x n
      → AreTagsOf text x m → n ≡ m
  one_tags None n m f h k = h ∙ sym k
  one_tags (Some t) None m f h k = absurd h
  one_tags (Some t) (Some n) None f h k = absurd k
  one_tags (Some t) (Some n) (Some m) f h k = ap Some (one_type value text h m k f)

  one_app : (a : AppSyntax) (n m : Node AppDecl) → Fine (app_sites a) → IsAppOf text a n → IsAppOf text a m → n ≡ m
  one_app (Types w paths loc) n m f (found, e, h) (other, g, k) =
      let same : found ≡ other = one_optional (AllZip (IsPathOf text)) (one_zip (IsPathOf text) (one_path value text))
      paths found other h k in
      e ∙ ap (λ x. record {
        node = app.PR
            (record { kind = record { node = role_of w.kind; loc = Some w.loc }; entity_tys = x });
        loc = Some loc;
      }) same
      ∙ sym g
  one_app (ContextPath p loc) n m f (path, e, h) (other, g, k) =
      e ∙ ap (λ x. record { node = app.Context (Left x); loc = Some loc }) (one_path value text p path other h k)
      ∙ sym g
  one_app (ContextRecord xs place loc) n m f (ys, e, h) (zs, g, k) =
      e ∙ ap (λ x. record { node = app.Context (Right (record { node = x; loc = Some place })); loc = Some loc })
      (one_attrs value text h zs k f) ∙ sym g

  apps_fine : (xs : List AppSyntax) (loc : Span) → Fine (apps_sites xs loc) → Fine (flat_map app_sites xs)
  apps_fine [] loc f = All-nil (IsFaultless value text)
  apps_fine (x ∷ xs) loc f = f

  one_applies : (x : Option (List AppSyntax × Span)) (n m : Option (Node (List (Node AppDecl))))
      → Fine (applies_sites x)
      → AppliesOf text x n → AppliesOf text x m → n ≡ m
  one_applies None n m f h k = h ∙ sym k
  one_applies (Some r) None m f h k = absurd h
  one_applies (Some r) (Some n) None f h k = absurd k
  one_applies (Some r) (Some n) (Some m) f h k =
      let node : n.node ≡ m.node = faultless_zip (IsFaultless value text) app_sites (IsAppOf text) one_app r.0 n.node
      m.node (apps_fine r.0 r.1 f) h.0 k.0 in
      let loc : n.loc ≡ m.loc = h.1 ∙ sym k.1 in
      λ i. Some (record { node = node i; loc = loc i })

  one_decl : (x : DeclSyntax) (n m : Declaration) → Fine (decl_sites x) → IsDeclOf text x n → IsDeclOf text x m
      → n ≡ m
  one_decl (decl.Entity names parents shape tags) (declaration.Entity (entity.Standard d))
      (declaration.Entity (entity.Standard e)) f h k =
      let behind_names = All-back (IsFaultless value text) (names_sites names)
      (paths_sites parents ++ (shape_sites shape ++ tags_sites tags)) f in
      let behind_parents = All-back (IsFaultless value text) (paths_sites parents)
      (shape_sites shape ++ tags_sites tags) behind_names in
      let are : d.names ≡ e.names = one_zip (IsIdNode text) one_id_node names d.names e.names h.0 k.0 in
      let above : d.member_of_types ≡ e.member_of_types = one_zip (IsPathOf text) (one_path value text) parents
      d.member_of_types e.member_of_types h.1 k.1 in
      let attrs : d.attrs ≡ e.attrs = one_shape shape d.attrs e.attrs
      (All-front (IsFaultless value text) (shape_sites shape) (tags_sites tags) behind_parents) h.2 k.2 in
      let tagged : d.tags ≡ e.tags = one_tags tags d.tags e.tags
      (All-back (IsFaultless value text) (shape_sites shape) (tags_sites tags) behind_parents) h.3 k.3 in
      λ i. declaration.Entity (entity.Standard
      (record { names = are i; member_of_types = above i; attrs = attrs i; tags = tagged i }))
  one_decl (decl.Entity names parents shape tags) (declaration.Entity (entity.Standard d)) _ f h k = absurd k
  one_decl (decl.Entity names parents shape tags) _ m f h k = absurd h
  one_decl (decl.Enum names choices brackets) (declaration.Entity (entity.Enum d))
      (declaration.Entity (entity.Enum e)) f h k =
      let are : d.names ≡ e.names = one_zip (IsIdNode text) one_id_node names d.names e.names h.0 k.0 in
      let chosen : d.choices ≡ e.choices = one_zip (IsChoice text) one_choice choices d.choices e.choices h.1 k.1 in
      λ i. declaration.Entity (entity.Enum (record { names = are i; choices = chosen i }))
  one_decl (decl.Enum names choices brackets) (declaration.Entity (entity.Enum d)) _ f h k = absurd k
  one_decl (decl.Enum names choices brackets) _ m f h k = absurd h
  one_decl (decl.ExternalEntity names parents) (declaration.Entity (entity.External d))
      (declaration.Entity (entity.External e)) f h k =
      let are : d.names ≡ e.names = one_zip (IsIdNode text) one_id_node names d.names e.names h.0 k.0 in
      let above : d.member_of_types ≡ e.member_of_types = one_zip (IsPathOf text) (one_path value text) parents
      d.member_of_types e.member_of_types h.1 k.1 in
      λ i. declaration.Entity (entity.External (record { names = are i; member_of_types = above i }))
  one_decl (decl.ExternalEntity names parents) (declaration.Entity (entity.External d)) _ f h k = absurd k
  one_decl (decl.ExternalEntity names parents) _ m f h k = absurd h
  one_decl (decl.Action names parents applies) (declaration.Action (action.Defined d))
      (declaration.Action (action.Defined e)) f h k =
      let behind = All-back (IsFaultless value text) (paths_sites parents) (applies_sites applies)
      (All-back (IsFaultless value text) (names_sites names) (paths_sites parents ++ applies_sites applies) f) in
      let are : d.names ≡ e.names = one_zip (IsNameNode text) (one_name_node value text) names d.names
      e.names h.0 k.0 in
      let above : d.parents ≡ e.parents = one_optional (AllZip (IsRefOf text)) (one_zip (IsRefOf text) one_ref)
      parents d.parents e.parents h.1 k.1 in
      let applied : d.app_decls ≡ e.app_decls = one_applies applies d.app_decls e.app_decls behind h.2 k.2 in
      λ i. declaration.Action (action.Defined (record { names = are i; parents = above i; app_decls = applied i }))
  one_decl (decl.Action names parents applies) (declaration.Action (action.Defined d)) _ f h k = absurd k
  one_decl (decl.Action names parents applies) _ m f h k = absurd h
  one_decl (decl.ExternalAction names parents) (declaration.Action (action.External d))
      (declaration.Action (action.External e)) f h k =
      let are : d.names ≡ e.names = one_zip (IsNameNode text) (one_name_node value text) names d.names
      e.names h.0 k.0 in
      let above : d.parents ≡ e.parents = one_optional (AllZip (IsRefOf text)) (one_zip (IsRefOf text) one_ref)
      parents d.parents e.parents h.1 k.1 in
      λ i. declaration.Action (action.External (record { names = are i; parents = above i }))
  one_decl (decl.ExternalAction names parents) (declaration.Action (action.External d)) _ f h k = absurd k
  one_decl (decl.ExternalAction names parents) _ m f h k = absurd h
  one_decl (decl.Common name ty) (declaration.Common d) (declaration.Common e) f h k =
      let named : d.name ≡ e.name = one_id_node name d.name e.name h.0 k.0 in
      let is : d.def ≡ e.def = one_type value text h.1 e.def k.1
      (All-back (IsFaultless value text) (name_sites name) (sites_of_type ty) f) in
      λ i. declaration.Common (record { name = named i; def = is i })
  one_decl (decl.Common name ty) (declaration.Common d) _ f h k = absurd k
  one_decl (decl.Common name ty) _ m f h k = absurd h

  one_declared : (x : DeclaredSyntax) (a b : Annotated (Node Declaration)) → Fine (declared_sites x)
      → IsDeclaredOf text x a
      → IsDeclaredOf text x b → a ≡ b
  one_declared x a b f h k =
      let node : a.item.node ≡ b.item.node = one_decl x.decl a.item.node b.item.node
      (All-tail (IsFaultless value text) (annotations x.annotations) (decl_sites x.decl) f) h.0 k.0 in
      let loc : a.item.loc ≡ b.item.loc = h.1 ∙ sym k.1 in
      let notes : a.annotations ≡ b.annotations =
      one_annotations value text x.annotations a.annotations b.annotations
      (All-head (IsFaultless value text) (annotations x.annotations) (decl_sites x.decl) f) h.2 k.2 in
      λ i. record { item = record { node = node i; loc = loc i }; annotations = notes i }

  one_item : (x : ItemSyntax) (a b : Annotated Namespace) → Fine (item_sites x) → IsItemOf text x a
      → IsItemOf text x b → a ≡ b
  one_item (item.Namespace notes p decls loc) a b f h k =
      let behind = All-tail (IsFaultless value text) (annotations notes)
      (path_sites p ++ flat_map declared_sites decls) f in
      let path : h.0 ≡ k.0 = one_path value text p h.0 k.0 h.3 k.3 in
      let ds : h.1 ≡ k.1 =
      faultless_zip (IsFaultless value text) declared_sites (IsDeclaredOf text) one_declared decls h.1 k.1
      (All-back (IsFaultless value text) (path_sites p) (flat_map declared_sites decls) behind) h.4 k.4 in
      let own : a.item ≡ b.item = h.2
      ∙ (λ i. record { name = Some (path i); decls = ds i; loc = Some loc }) ∙ sym k.2 in
      let noted : a.annotations ≡ b.annotations =
      one_annotations value text notes a.annotations b.annotations
      (All-head (IsFaultless value text) (annotations notes) (path_sites p ++ flat_map declared_sites decls) f) h.5
      k.5 in
      λ i. record { item = own i; annotations = noted i }
  one_item (item.Decl x) a b f h k =
      let same : h.0 ≡ k.0 = one_declared x h.0 k.0 f h.2 k.2 in
      h.1 ∙ (λ i. record {
        item = record { name = None; decls = same i ∷ []; loc = None };
        annotations = record { 0 = [] };
      }) ∙ sym k.1

  -- every site of a lawful syntax is faultless
  all_faultless : (items : List ItemSyntax) → IsLawful text items → Fine (sites_of items)
  all_faultless items lawful = fine [] (sites_of items) refl
    where
      fine : (front sites : List Site) → sites_of items ≡ front ++ sites → Fine sites
      fine front [] e = All-nil (IsFaultless value text)
      fine front (s ∷ sites) e =
          All-cons (IsFaultless value text) s sites (λ fault end at. lawful fault end (front, s, sites, e, at))
          (fine (front ++ s ∷ []) sites (e ∙ sym (append_assoc front (s ∷ []) sites)))

  -- a lawful syntax has one tree
  pub one_lawful_tree : (items : List ItemSyntax) (a b : List (Annotated Namespace)) → IsLawful text items
      → IsTreeOf text items a → IsTreeOf text items b → a ≡ b
  one_lawful_tree items a b lawful h k =
      faultless_zip (IsFaultless value text) item_sites (IsItemOf text) one_item items a b
      (all_faultless items lawful) h k
