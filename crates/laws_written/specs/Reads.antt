-- Tokens of a text that have a lawful syntax, whose tree says what is written.
use Rattle.std.specs.Prelude.{◌≡◌, ℕ, Bool, List, ◌∷◌, Option}
use Rattle.std.specs.List.{All, AllZip, flat_map}
use Rattle.cedar_data.specs.declared.node.Node.{Node}
use Rattle.cedar_identifiers.specs.Names.{texts_of}
use Rattle.cedar_identifiers.specs.declared.id.Id.{Id}
use Rattle.schema_syntax_grammar.specs.declared.token_kind.TokenKind.TheVariants.{PathSep, Comma}
use Rattle.schema_syntax_grammar.specs.Grammar.{is_ident}
use Rattle.schema_syntax_grammar.specs.Grammar.{is_name_kind}
use Rattle.schema_syntax_tokens.specs.declared.token.Token.{Token}
use Rattle.schema_syntax_parser.specs.declared.syntax.TypeSyntax.{TypeSyntax}
use Rattle.schema_syntax_parser.specs.declared.syntax.AttrSyntax.{AttrSyntax}
use Rattle.schema_syntax_parser.specs.Syntax.{AreAnnotations, IsChain, IsPath, IsRef, IsType, IsAttr, IsShape, AreTags}
use Rattle.schema_syntax_parser.specs.Syntax.{IsApp, Applies, IsDecl, IsDeclared, IsItem, IsSyntax}
use Rattle.schema_syntax_parser.specs.Syntax.{IsStringToken}
use Rattle.schema_syntax_tree.specs.declared.types.Type.{«Type»}
use Rattle.schema_syntax_tree.specs.declared.types.AttrDecl.{AttrDecl}
use Rattle.schema_syntax_tree.specs.declared.annotated.Annotated.{Annotated}
use Rattle.schema_syntax_errors.specs.declared.user_error.UserError.{UserError}
use Rattle.schema_syntax_reader.specs.Sites.{Site, annotations, name_sites, names_sites, path_sites, sites_of_type}
use Rattle.schema_syntax_reader.specs.Sites.{sites_of_attr, sites_of_attrs, shape_sites, tags_sites, app_sites}
use Rattle.schema_syntax_reader.specs.Sites.{applies_sites, decl_sites, declared_sites, item_sites}
use Rattle.schema_syntax_reader.specs.UserFaults.{FaultAt}
use Rattle.schema_syntax_parser.specs.declared.syntax.AnnotationSyntax.{AnnotationSyntax}
use Rattle.schema_syntax_reader.specs.Leaves.{Notes, AreNotes}
use Rattle.schema_syntax_reader.specs.Trees as tree
use Rattle.laws_written.specs.Written.{WrittenType, WrittenAttributes, attribute, WrittenRef, WrittenMember}
use Rattle.laws_written.specs.Written.{WrittenDecl, WrittenDeclared, WrittenItem}
use Rattle.laws_written.specs.Shows.{ShowsType, ShowsAttributes, SaysPath, SaysId, SaysName, SaysChoice, SaysRef}
use Rattle.laws_written.specs.Shows.{SaysShape, SaysTags, SaysMember, SaysApplies, SaysDecl, SaysDeclared, SaysItem}

module _ (source : List ℕ) where
  -- no fault is at the site
  abbrev pub IsFaultless : Site → Type 0
  IsFaultless site = (fault : UserError) (end : ℕ) → FaultAt source site fault end → ⊥

  pub record ReadsPath (ts : List Token) (names : List (List ℕ)) : Type 0 where
    pub words : List Token
    pub parsed : IsChain PathSep is_ident ts words
    pub ids : List Id
    pub are : AllZip (tree.IsId source) words ids
    pub says : texts_of ids ≡ names
    pub lawful : All IsFaultless (names_sites words)

  -- the tokens are a type without a user fault, and a tree of it shows this
  pub record ReadsType (ts : List Token) (t : WrittenType) : Type 0 where
    pub syn : TypeSyntax
    pub parsed : IsType ts syn
    pub node : Node «Type»
    pub is : tree.IsTypeOf source syn node
    pub shows : ShowsType node.node t
    pub lawful : All IsFaultless (sites_of_type syn)

  -- attributes, and what stands around them
  pub record ReadsAttributes (Parsed : List AttrSyntax → Type 0) (xs : WrittenAttributes) : Type 0 where
    pub syns : List AttrSyntax
    pub parsed : Parsed syns
    pub nodes : List (Node (Annotated AttrDecl))
    pub are : tree.AreAttrsOf source syns nodes
    pub shows : ShowsAttributes nodes xs
    pub lawful : All IsFaultless (sites_of_attrs syns)

  -- one attribute, whatever others follow it
  pub record ReadsAttribute (ts : List Token) (ns : Notes) (n : List ℕ) (r : Bool) (t : WrittenType) : Type 0 where
    pub syn : AttrSyntax
    pub parsed : IsAttr ts syn
    pub node : Node (Annotated AttrDecl)
    pub are : (syns : List AttrSyntax) (nodes : List (Node (Annotated AttrDecl))) → tree.AreAttrsOf source syns nodes
        → tree.AreAttrsOf source (syn ∷ syns) (node ∷ nodes)
    pub shows : (nodes : List (Node (Annotated AttrDecl))) (xs : WrittenAttributes) → ShowsAttributes nodes xs
        → ShowsAttributes (node ∷ nodes) (attribute ns n r t xs)
    pub lawful : All IsFaultless (sites_of_attr syn)

  -- the tokens are annotations that make these notes
  pub record ReadsNotes (ts : List Token) (notes : Notes) : Type 0 where
    pub syns : List AnnotationSyntax
    pub parsed : AreAnnotations ts syns
    pub are : AreNotes source syns notes
    pub lawful : IsFaultless (annotations syns)

  -- one part, and a list of parts
  pub record Reads {S T A : Type 0} (Parsed : S → Type 0) (Is : S → T → Type 0) (Says : T → A → Type 0)
      (sites : S → List Site) (x : A) : Type 0 where
    pub syn : S
    pub parsed : Parsed syn
    pub node : T
    pub is : Is syn node
    pub says : Says node x
    pub lawful : All IsFaultless (sites syn)

  pub record ReadsAll {S T A : Type 0} (Parsed : List S → Type 0) (Is : S → T → Type 0) (Says : T → A → Type 0)
      (sites : S → List Site) (xs : List A) : Type 0 where
    pub syns : List S
    pub parsed : Parsed syns
    pub nodes : List T
    pub are : AllZip Is syns nodes
    pub says : AllZip Says nodes xs
    pub lawful : All IsFaultless (flat_map sites syns)

  abbrev pub ReadsOnePath : List Token → List (List ℕ) → Type 0
  ReadsOnePath ts = Reads (IsPath ts) (tree.IsPathOf source) SaysPath path_sites

  abbrev pub ReadsOneRef : List Token → WrittenRef → Type 0
  ReadsOneRef ts = Reads (IsRef ts) (tree.IsRefOf source) SaysRef path_sites

  abbrev pub ReadsOneString : List Token → List ℕ → Type 0
  ReadsOneString ts = Reads (IsStringToken ts) (tree.IsChoice source) SaysChoice name_sites

  abbrev pub ReadsIdents : List Token → List (List ℕ) → Type 0
  ReadsIdents ts = ReadsAll (IsChain Comma is_ident ts) (tree.IsIdNode source) SaysId name_sites

  abbrev pub ReadsNames : List Token → List (List ℕ) → Type 0
  ReadsNames ts = ReadsAll (IsChain Comma is_name_kind ts) (tree.IsNameNode source) SaysName name_sites

  abbrev pub ReadsShape : List Token → WrittenAttributes → Type 0
  ReadsShape ts = Reads (IsShape ts) (tree.IsShapeOf source) SaysShape shape_sites

  abbrev pub ReadsTags : List Token → Option WrittenType → Type 0
  ReadsTags ts = Reads (AreTags ts) (tree.AreTagsOf source) SaysTags tags_sites

  abbrev pub ReadsMember : List Token → WrittenMember → Type 0
  ReadsMember ts = Reads (IsApp ts) (tree.IsAppOf source) SaysMember app_sites

  abbrev pub ReadsApplies : List Token → Option (List WrittenMember) → Type 0
  ReadsApplies ts = Reads (Applies ts) (tree.AppliesOf source) SaysApplies applies_sites

  abbrev pub ReadsDecl : List Token → WrittenDecl → Type 0
  ReadsDecl ts = Reads (IsDecl ts) (tree.IsDeclOf source) SaysDecl decl_sites

  abbrev pub ReadsDeclared : List Token → WrittenDeclared → Type 0
  ReadsDeclared ts = Reads (IsDeclared ts) (tree.IsDeclaredOf source) SaysDeclared declared_sites

  abbrev pub ReadsItem : List Token → WrittenItem → Type 0
  ReadsItem ts = Reads (IsItem ts) (tree.IsItemOf source) SaysItem item_sites

  -- the tokens have a syntax without a user fault, and a tree of it that says this
  abbrev pub ReadsSchema : List Token → List WrittenItem → Type 0
  ReadsSchema ts = ReadsAll (IsSyntax ts) (tree.IsItemOf source) SaysItem item_sites
