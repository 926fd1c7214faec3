-- What a tree says, places aside.
use Rattle.std.specs.Prelude.{◌≡◌, ℕ, Bool, List, [], ◌∷◌, Option, None, Some}
use Rattle.std.specs.List.{AllZip}
use Rattle.cedar_data.specs.declared.node.Node.{Node}
use Rattle.cedar_identifiers.specs.Names.{texts_of}
use Rattle.schema_syntax_tree.specs.declared.path.Path.{Path}
use Rattle.schema_syntax_tree.specs.declared.types.Type.{«Type»}
use Rattle.schema_syntax_tree.specs.declared.types.Type.TheVariants.{Set, Ident, Record}
use Rattle.schema_syntax_tree.specs.declared.types.AttrDecl.{AttrDecl, out-AttrDecl}
use Rattle.schema_syntax_tree.specs.declared.annotated.Annotated.{Annotated}
use Rattle.cedar_identifiers.specs.declared.id.Id.{Id}
use Rattle.schema_syntax_tree.specs.declared.qual_name.QualName.{QualName}
use Rattle.schema_syntax_tree.specs.declared.pr.PR.{PR}
use Rattle.schema_syntax_tree.specs.declared.app_decl.AppDecl.{AppDecl}
use Rattle.schema_syntax_tree.specs.declared.app_decl.AppDecl.TheVariants as app
use Rattle.schema_syntax_tree.specs.declared.either.Either.TheVariants.{Left, Right}
use Rattle.schema_syntax_tree.specs.declared.declaration.Declaration.{Declaration}
use Rattle.schema_syntax_tree.specs.declared.declaration.Declaration.TheVariants as declaration
use Rattle.schema_syntax_tree.specs.declared.entity_decl.EntityDecl.TheVariants as tree
use Rattle.schema_syntax_tree.specs.declared.action_decl.ActionDecl.TheVariants as tree_action
use Rattle.schema_syntax_tree.specs.declared.namespace.Namespace.{Namespace}
use Rattle.laws_written.specs.Written.{WrittenType, WrittenAttributes, path, set, rec, no_more, attribute}
use Rattle.laws_written.specs.Written.{WrittenRef, WrittenMember, types, context_path, context_record, WrittenDecl}
use Rattle.laws_written.specs.Written.{entity, enum, external_entity, action, external_action, common}
use Rattle.laws_written.specs.Written.{WrittenDeclared, WrittenItem, namespace, outside}
use Rattle.schema_syntax_reader.specs.Leaves.{Notes}

mutual
  -- a type of a tree says what is written of it, whatever its places are
  pub data ShowsType : «Type» → WrittenType → Type 0 where
    shows_path : (p : Path) → ShowsType (Ident p) (path (texts_of p.ids))
    shows_set : (n : Node «Type») {t : WrittenType} → ShowsType n.node t → ShowsType (Set n) (set t)
    shows_record : (ys : List (Node (Annotated AttrDecl))) {xs : WrittenAttributes} → ShowsAttributes ys xs
        → ShowsType (Record ys) (rec xs)

  -- the attributes of a tree say what is written of them, one by one
  pub data ShowsAttributes : List (Node (Annotated AttrDecl)) → WrittenAttributes → Type 0 where
    shows_none : ShowsAttributes [] no_more
    shows_more : (y : Node (Annotated AttrDecl)) {ys : List (Node (Annotated AttrDecl))} {ns : Notes} {n : List ℕ}
        {r : Bool} {t : WrittenType} {xs : WrittenAttributes}
        → (out-AttrDecl y.node.item).name.node ≡ n → (out-AttrDecl y.node.item).required ≡ r
        → ShowsType (out-AttrDecl y.node.item).ty.node t → y.node.annotations.0 ≡ ns
        → ShowsAttributes ys xs → ShowsAttributes (y ∷ ys) (attribute ns n r t xs)

abbrev pub SaysPath : Path → List (List ℕ) → Type 0
SaysPath p names = texts_of p.ids ≡ names

abbrev pub SaysId : Node Id → List ℕ → Type 0
SaysId n name = n.node.text ≡ name

abbrev pub SaysName : Node (List ℕ) → List ℕ → Type 0
SaysName n name = n.node ≡ name

abbrev pub SaysChoice : Node (List ℕ) → List ℕ → Type 0
SaysChoice n choice = n.node ≡ choice

abbrev pub SaysOptionalPath : Option Path → Option (List (List ℕ)) → Type 0
SaysOptionalPath None None = Unit {0}
SaysOptionalPath (Some p) (Some names) = SaysPath p names
SaysOptionalPath _ _ = ⊥

abbrev pub SaysRef : Node QualName → WrittenRef → Type 0
SaysRef n r = SaysOptionalPath n.node.path r.ty × (n.node.eid ≡ r.id)

-- a list that is absent says no item
abbrev pub SaysOptional : {A B : Type 0} → (A → B → Type 0) → Option (List A) → List B → Type 0
SaysOptional R None [] = Unit {0}
SaysOptional R (Some (x ∷ xs)) (y ∷ ys) = AllZip R (x ∷ xs) (y ∷ ys)
SaysOptional R _ _ = ⊥

abbrev pub SaysTags : Option (Node «Type») → Option WrittenType → Type 0
SaysTags None None = Unit {0}
SaysTags (Some n) (Some t) = ShowsType n.node t
SaysTags _ _ = ⊥

abbrev pub SaysShape : Node (List (Node (Annotated AttrDecl))) → WrittenAttributes → Type 0
SaysShape n xs = ShowsAttributes n.node xs

abbrev pub SaysMember : Node AppDecl → WrittenMember → Type 0
SaysMember n (types role paths) =
    (kind : Node PR) × (found : Option (List Path)) × (n.node ≡ app.PR (record { kind = kind; entity_tys = found }))
    × (kind.node ≡ role) × SaysOptional SaysPath found paths
SaysMember n (context_path p) = (q : Path) × (n.node ≡ app.Context (Left q)) × SaysPath q p
SaysMember n (context_record xs) =
    (r : Node (List (Node (Annotated AttrDecl)))) × (n.node ≡ app.Context (Right r)) × SaysShape r xs

abbrev pub SaysApplies : Option (Node (List (Node AppDecl))) → Option (List WrittenMember) → Type 0
SaysApplies None None = Unit {0}
SaysApplies (Some n) (Some ms) = AllZip SaysMember n.node ms
SaysApplies _ _ = ⊥

abbrev pub SaysDecl : Declaration → WrittenDecl → Type 0
SaysDecl (declaration.Entity (tree.Standard d)) (entity names parents shape tags) =
    AllZip SaysId d.names names × AllZip SaysPath d.member_of_types parents × SaysShape d.attrs shape
    × SaysTags d.tags tags
SaysDecl (declaration.Entity (tree.Enum d)) (enum names choices) =
    AllZip SaysId d.names names × AllZip SaysChoice d.choices choices
SaysDecl (declaration.Entity (tree.External d)) (external_entity names parents) =
    AllZip SaysId d.names names × AllZip SaysPath d.member_of_types parents
SaysDecl (declaration.Action (tree_action.Defined d)) (action names parents members) =
    AllZip SaysName d.names names × SaysOptional SaysRef d.parents parents × SaysApplies d.app_decls members
SaysDecl (declaration.Action (tree_action.External d)) (external_action names parents) =
    AllZip SaysName d.names names × SaysOptional SaysRef d.parents parents
SaysDecl (declaration.Common d) (common name t) = SaysId d.name name × ShowsType d.def.node t
SaysDecl _ _ = ⊥

abbrev pub SaysDeclared : Annotated (Node Declaration) → WrittenDeclared → Type 0
SaysDeclared a d = SaysDecl a.item.node d.decl × (a.annotations.0 ≡ d.notes)

-- a namespace of a tree says what is written of it, whatever its places are
abbrev pub SaysItem : Annotated Namespace → WrittenItem → Type 0
SaysItem a (namespace ns name ds) =
    SaysOptionalPath a.item.name (Some name) × AllZip SaysDeclared a.item.decls ds × (a.annotations.0 ≡ ns)
SaysItem a (outside d) = (a.item.name ≡ None) × AllZip SaysDeclared a.item.decls (d ∷ []) × (a.annotations.0 ≡ [])
