-- The tree of a syntax: each part with what its words and strings stand for, and with its place.
use Rattle.std.specs.Prelude.{◌≡◌, ℕ, List, [], ◌∷◌, ◌++◌, Option, Some, None}
use Rattle.std.specs.List.{AllZip}
use Rattle.cedar_data.specs.Span.{Span}
use Rattle.cedar_data.specs.declared.node.Node.{Node}
use Rattle.cedar_identifiers.specs.declared.id.Id.{Id}
use Rattle.cedar_identifiers.specs.declared.annotations.Annotations.{Annotations}
use Rattle.schema_syntax_grammar.specs.declared.token_kind.TokenKind.{TokenKind}
use Rattle.schema_syntax_grammar.specs.declared.token_kind.TokenKind.TheVariants.{KwResource, StringLit}
use Rattle.schema_syntax_tokens.specs.declared.token.Token.{Token}
use Rattle.schema_syntax_parser.specs.declared.syntax.PathSyntax.{PathSyntax}
use Rattle.schema_syntax_parser.specs.declared.syntax.TypeSyntax.{TypeSyntax}
use Rattle.schema_syntax_parser.specs.declared.syntax.TypeSyntax.TheVariants as written
use Rattle.schema_syntax_parser.specs.declared.syntax.AttrSyntax.{AttrSyntax, out-AttrSyntax}
use Rattle.schema_syntax_parser.specs.declared.syntax.AppSyntax.{AppSyntax}
use Rattle.schema_syntax_parser.specs.declared.syntax.AppSyntax.TheVariants.{Types, ContextPath, ContextRecord}
use Rattle.schema_syntax_parser.specs.declared.syntax.DeclSyntax.{DeclSyntax}
use Rattle.schema_syntax_parser.specs.declared.syntax.DeclSyntax.TheVariants as decl
use Rattle.schema_syntax_parser.specs.declared.syntax.DeclaredSyntax.{DeclaredSyntax}
use Rattle.schema_syntax_parser.specs.declared.syntax.ItemSyntax.{ItemSyntax}
use Rattle.schema_syntax_parser.specs.declared.syntax.ItemSyntax.TheVariants as item
use Rattle.schema_syntax_tree.specs.declared.path.Path.{Path}
use Rattle.schema_syntax_tree.specs.declared.types.Type.{«Type»}
use Rattle.schema_syntax_tree.specs.declared.types.Type.TheVariants.{Set, Ident, Record}
use Rattle.schema_syntax_tree.specs.declared.types.AttrDecl.{AttrDecl, roll-AttrDecl}
use Rattle.schema_syntax_tree.specs.declared.annotated.Annotated.{Annotated}
use Rattle.schema_syntax_tree.specs.declared.pr.PR.{PR}
use Rattle.schema_syntax_tree.specs.declared.pr.PR.TheVariants.{Principal, Resource}
use Rattle.schema_syntax_tree.specs.declared.app_decl.AppDecl.{AppDecl}
use Rattle.schema_syntax_tree.specs.declared.app_decl.AppDecl.TheVariants as app
use Rattle.schema_syntax_tree.specs.declared.either.Either.TheVariants.{Left, Right}
use Rattle.schema_syntax_tree.specs.declared.qual_name.QualName.{QualName}
use Rattle.schema_syntax_tree.specs.declared.declaration.Declaration.{Declaration}
use Rattle.schema_syntax_tree.specs.declared.declaration.Declaration.TheVariants as declaration
use Rattle.schema_syntax_tree.specs.declared.entity_decl.EntityDecl.TheVariants as entity
use Rattle.schema_syntax_tree.specs.declared.action_decl.ActionDecl.TheVariants as action
use Rattle.schema_syntax_tree.specs.declared.namespace.Namespace.{Namespace}
use Rattle.schema_syntax_tokens.specs.TokenLists.{whole_place}
use Rattle.schema_syntax_reader.specs.Leaves.{word_at, IsStringAt, AreNotes}

-- whom the word stands for
abbrev pub role_of : TokenKind → PR
role_of KwResource = Resource
role_of _ = Principal

module _ (text : List ℕ) where
  -- the word at the token's place, as an id
  abbrev pub IsId : Token → Id → Type 0
  IsId t id = id.text ≡ word_at text t

  -- the node holds the word at the token's place, as an id, and that place
  abbrev pub IsIdNode : Token → Node Id → Type 0
  IsIdNode t n = IsId t n.node × (n.loc ≡ Some t.loc)

  -- what a name stands for, by its kind
  abbrev pub IsNameOf : TokenKind → Token → List ℕ → Type 0
  IsNameOf StringLit t value = IsStringAt text t value
  IsNameOf _ t value = value ≡ word_at text t

  -- the node holds what the name stands for, and the token's place
  abbrev pub IsNameNode : Token → Node (List ℕ) → Type 0
  IsNameNode t n = IsNameOf t.kind t n.node × (n.loc ≡ Some t.loc)

  -- the node holds what the string of a choice stands for, and the token's place
  abbrev pub IsChoice : Token → Node (List ℕ) → Type 0
  IsChoice t n = IsStringAt text t n.node × (n.loc ≡ Some t.loc)

  -- the ids of the path are the words of its syntax in turn, and its place is that of the syntax
  abbrev pub IsPathOf : PathSyntax → Path → Type 0
  IsPathOf p path = AllZip IsId p.names path.ids × (path.loc ≡ Some p.loc)

  -- a list that may be absent is absent where it has no item
  abbrev pub IsOptional : {A B : Type 0} → (List A → List B → Type 0) → List A → Option (List B) → Type 0
  IsOptional R [] found = found ≡ None
  IsOptional R (x ∷ xs) None = ⊥
  IsOptional R (x ∷ xs) (Some ys) = R (x ∷ xs) ys

  -- the path of a reference's type, where one stands before the id
  abbrev pub IsTypeOfRef : List Token → Option Path → Type 0
  IsTypeOfRef [] found = found ≡ None
  IsTypeOfRef (t ∷ ts) None = ⊥
  IsTypeOfRef (t ∷ ts) (Some path) = AllZip IsId (t ∷ ts) path.ids × (path.loc ≡ Some (whole_place (t ∷ ts)))

  -- the last name of a reference is the id, and those before it are the path
  abbrev pub IsRefOf : PathSyntax → Node QualName → Type 0
  IsRefOf p n = (front : List Token) × (last : Token) × (p.names ≡ front ++ last ∷ [])
      × IsNameOf last.kind last n.node.eid × IsTypeOfRef front n.node.path × (n.loc ≡ Some p.loc)

  mutual
    -- the node is the type of the syntax, with the places of its parts
    pub data IsTypeOf : TypeSyntax → Node «Type» → Type 0 where
      path : {p : PathSyntax} {q : Path} → IsPathOf p q
          → IsTypeOf (written.Path p) (record { node = Ident q; loc = Some p.loc })
      set : {t : TypeSyntax} {n : Node «Type»} (loc : Span) → IsTypeOf t n
          → IsTypeOf (written.Set t loc) (record { node = Set n; loc = Some loc })
      attributes : {xs : List AttrSyntax} {ys : List (Node (Annotated AttrDecl))} (loc : Span) → AreAttrsOf xs ys
          → IsTypeOf (written.Record xs loc) (record { node = Record ys; loc = Some loc })

    -- the nodes are the attributes of the syntax, in turn
    pub data AreAttrsOf : List AttrSyntax → List (Node (Annotated AttrDecl)) → Type 0 where
      none : AreAttrsOf [] []
      more : {x : AttrSyntax} {xs : List AttrSyntax} {ys : List (Node (Annotated AttrDecl))} (name : Node (List ℕ))
          (ty : Node «Type») (notes : Annotations)
          → IsNameNode (out-AttrSyntax x).name name → IsTypeOf (out-AttrSyntax x).ty ty
          → AreNotes text (out-AttrSyntax x).annotations notes.0 → AreAttrsOf xs ys
          → AreAttrsOf (x ∷ xs) (record {
            node = record {
              item = roll-AttrDecl (record { name = name; required = (out-AttrSyntax x).required; ty = ty });
              annotations = notes;
            };
            loc = Some (out-AttrSyntax x).loc;
          } ∷ ys)

  -- the attributes of an entity type: none without a place where no record stands
  abbrev pub IsShapeOf : Option (List AttrSyntax × Span) → Node (List (Node (Annotated AttrDecl))) → Type 0
  IsShapeOf None n = (n.node ≡ []) × (n.loc ≡ None)
  IsShapeOf (Some r) n = AreAttrsOf r.0 n.node × (n.loc ≡ Some r.1)

  abbrev pub AreTagsOf : Option TypeSyntax → Option (Node «Type») → Type 0
  AreTagsOf None found = found ≡ None
  AreTagsOf (Some t) None = ⊥
  AreTagsOf (Some t) (Some n) = IsTypeOf t n

  -- a member of an `appliesTo` block
  abbrev pub IsAppOf : AppSyntax → Node AppDecl → Type 0
  IsAppOf (Types w paths loc) n =
      (found : Option (List Path)) × (n
      ≡ record {
        node = app.PR (record
            { kind = record { node = role_of w.kind; loc = Some w.loc }; entity_tys = found });
        loc = Some loc;
      })
      × IsOptional (AllZip IsPathOf) paths found
  IsAppOf (ContextPath p loc) n =
      (path : Path) × (n ≡ record { node = app.Context (Left path); loc = Some loc }) × IsPathOf p path
  IsAppOf (ContextRecord xs record_loc loc) n =
      (ys : List (Node (Annotated AttrDecl)))
      × (n ≡ record { node = app.Context (Right (record { node = ys; loc = Some record_loc })); loc = Some loc })
      × AreAttrsOf xs ys

  abbrev pub AppliesOf : Option (List AppSyntax × Span) → Option (Node (List (Node AppDecl))) → Type 0
  AppliesOf None found = found ≡ None
  AppliesOf (Some r) None = ⊥
  AppliesOf (Some r) (Some n) = AllZip IsAppOf r.0 n.node × (n.loc ≡ Some r.1)

  -- the declaration is that of the syntax: its names, and what is declared of them
  abbrev pub IsDeclOf : DeclSyntax → Declaration → Type 0
  IsDeclOf (decl.Entity names parents shape tags) (declaration.Entity (entity.Standard d)) =
      AllZip IsIdNode names d.names × AllZip IsPathOf parents d.member_of_types × IsShapeOf shape d.attrs
      × AreTagsOf tags d.tags
  IsDeclOf (decl.Enum names choices brackets) (declaration.Entity (entity.Enum d)) =
      AllZip IsIdNode names d.names × AllZip IsChoice choices d.choices
  IsDeclOf (decl.ExternalEntity names parents) (declaration.Entity (entity.External d)) =
      AllZip IsIdNode names d.names × AllZip IsPathOf parents d.member_of_types
  IsDeclOf (decl.Action names parents applies) (declaration.Action (action.Defined d)) =
      AllZip IsNameNode names d.names × IsOptional (AllZip IsRefOf) parents d.parents × AppliesOf applies d.app_decls
  IsDeclOf (decl.ExternalAction names parents) (declaration.Action (action.External d)) =
      AllZip IsNameNode names d.names × IsOptional (AllZip IsRefOf) parents d.parents
  IsDeclOf (decl.Common name ty) (declaration.Common d) = IsIdNode name d.name × IsTypeOf ty d.def
  IsDeclOf _ _ = ⊥

  -- the node holds the declaration and its place, and the annotations are those of the syntax
  abbrev pub IsDeclaredOf : DeclaredSyntax → Annotated (Node Declaration) → Type 0
  IsDeclaredOf x a = IsDeclOf x.decl a.item.node × (a.item.loc ≡ Some x.loc)
      × AreNotes text x.annotations a.annotations.0

  -- A namespace. A declaration outside of every one is alone in a namespace without name, place and annotations.
  abbrev pub IsItemOf : ItemSyntax → Annotated Namespace → Type 0
  IsItemOf (item.Namespace notes p decls loc) a =
      (path : Path) × (ds : List (Annotated (Node Declaration)))
      × (a.item ≡ record { name = Some path; decls = ds; loc = Some loc }) × IsPathOf p path
      × AllZip IsDeclaredOf decls ds × AreNotes text notes a.annotations.0
  IsItemOf (item.Decl x) a = (d : Annotated (Node Declaration))
      × (a ≡ record { item = record { name = None; decls = d ∷ []; loc = None }; annotations = record { 0 = [] } })
      × IsDeclaredOf x d

  -- the tree is that of the syntax: a namespace for each item, in turn
  abbrev pub IsTreeOf : List ItemSyntax → List (Annotated Namespace) → Type 0
  IsTreeOf items schema = AllZip IsItemOf items schema
