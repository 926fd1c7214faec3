-- The sites of a syntax, in the order of the text: its names, its strings, its annotations, and lists without items.
use Rattle.std.specs.Prelude.{List, [], ◌∷◌, ◌++◌, Option, Some, None}
use Rattle.std.specs.List.{flat_map}
use Rattle.cedar_data.specs.Span.{Span}
use Rattle.schema_syntax_grammar.specs.declared.token_kind.TokenKind.{TokenKind}
use Rattle.schema_syntax_grammar.specs.declared.token_kind.TokenKind.TheVariants.{StringLit}
use Rattle.schema_syntax_tokens.specs.declared.token.Token.{Token}
use Rattle.schema_syntax_parser.specs.declared.syntax.PathSyntax.{PathSyntax}
use Rattle.schema_syntax_parser.specs.declared.syntax.AnnotationSyntax.{AnnotationSyntax}
use Rattle.schema_syntax_parser.specs.declared.syntax.TypeSyntax.{TypeSyntax}
use Rattle.schema_syntax_parser.specs.declared.syntax.TypeSyntax.TheOpen.{TypeSyntax-F, AttrSyntax-F}
use Rattle.schema_syntax_parser.specs.declared.syntax.TypeSyntax.TheFolds.{fold-TypeSyntax, fold-AttrSyntax}
use Rattle.schema_syntax_parser.specs.declared.syntax.AttrSyntax.{AttrSyntax}
use Rattle.schema_syntax_parser.specs.declared.syntax.AppSyntax.{AppSyntax}
use Rattle.schema_syntax_parser.specs.declared.syntax.AppSyntax.TheVariants.{Types, ContextPath, ContextRecord}
use Rattle.schema_syntax_parser.specs.declared.syntax.DeclSyntax.{DeclSyntax}
use Rattle.schema_syntax_parser.specs.declared.syntax.DeclSyntax.TheVariants.{Entity, Enum, ExternalEntity, Action}
use Rattle.schema_syntax_parser.specs.declared.syntax.DeclSyntax.TheVariants.{ExternalAction, Common}
use Rattle.schema_syntax_parser.specs.declared.syntax.DeclaredSyntax.{DeclaredSyntax}
use Rattle.schema_syntax_parser.specs.declared.syntax.ItemSyntax.{ItemSyntax}
use Rattle.schema_syntax_parser.specs.declared.syntax.ItemSyntax.TheVariants.{Namespace, Decl}

-- a part that stands for something, or that may not be there
pub data Site : Type 0 where
  word : Token → Site
  text : Token → Site
  annotations : List AnnotationSyntax → Site
  empty : Span → Site

-- a name: a string, or a word
abbrev pub site_of_kind : TokenKind → Token → Site
site_of_kind StringLit t = text t
site_of_kind _ t = word t

-- the site of a name: a text where it is a string, and else a word
abbrev pub name_sites : Token → List Site
name_sites t = site_of_kind t.kind t ∷ []

-- the sites of names, in turn
abbrev pub names_sites : List Token → List Site
names_sites names = flat_map name_sites names

-- the sites of a path or of a reference: those of its names
abbrev pub path_sites : PathSyntax → List Site
path_sites p = names_sites p.names

-- the sites of paths, in turn
abbrev pub paths_sites : List PathSyntax → List Site
paths_sites paths = flat_map path_sites paths

abbrev pub type_sites : TypeSyntax-F (List Site) (List Site) → List Site
type_sites (TypeSyntax-F.Path p) = path_sites p
type_sites (TypeSyntax-F.Set element loc) = element
type_sites (TypeSyntax-F.Record attrs loc) = flat_map (λ s. s) attrs

abbrev pub attr_sites : AttrSyntax-F (List Site) (List Site) → List Site
attr_sites a = annotations a.annotations ∷ (name_sites a.name ++ a.ty)

-- the sites of a type, in the order of the text
abbrev pub sites_of_type : TypeSyntax → List Site
sites_of_type = fold-TypeSyntax (List Site) (List Site) type_sites attr_sites

-- the sites of an attribute: its annotations, its name and its type
abbrev pub sites_of_attr : AttrSyntax → List Site
sites_of_attr = fold-AttrSyntax (List Site) (List Site) type_sites attr_sites

-- the sites of attributes, in turn
abbrev pub sites_of_attrs : List AttrSyntax → List Site
sites_of_attrs attrs = flat_map sites_of_attr attrs

abbrev pub shape_sites : Option (List AttrSyntax × Span) → List Site
shape_sites None = []
shape_sites (Some r) = sites_of_attrs r.0

abbrev pub tags_sites : Option TypeSyntax → List Site
tags_sites None = []
tags_sites (Some t) = sites_of_type t

abbrev pub app_sites : AppSyntax → List Site
app_sites (Types kind paths loc) = paths_sites paths
app_sites (ContextPath p loc) = path_sites p
app_sites (ContextRecord attrs record_loc loc) = sites_of_attrs attrs

-- the choices of an enumerated entity type: there has to be one
abbrev pub choices_sites : List Token → Span → List Site
choices_sites [] loc = empty loc ∷ []
choices_sites (t ∷ ts) loc = names_sites (t ∷ ts)

-- an `appliesTo` block has to have a member
abbrev pub apps_sites : List AppSyntax → Span → List Site
apps_sites [] loc = empty loc ∷ []
apps_sites (a ∷ as') loc = flat_map app_sites (a ∷ as')

abbrev pub applies_sites : Option (List AppSyntax × Span) → List Site
applies_sites None = []
applies_sites (Some r) = apps_sites r.0 r.1

-- the sites of what is declared, in the order of the text
abbrev pub decl_sites : DeclSyntax → List Site
decl_sites (Entity names parents shape tags) =
    names_sites names ++ (paths_sites parents ++ (shape_sites shape ++ tags_sites tags))
decl_sites (Enum names choices brackets) = names_sites names ++ choices_sites choices brackets
decl_sites (ExternalEntity names parents) = names_sites names ++ paths_sites parents
decl_sites (Action names parents applies) = names_sites names ++ (paths_sites parents ++ applies_sites applies)
decl_sites (ExternalAction names parents) = names_sites names ++ paths_sites parents
decl_sites (Common name ty) = name_sites name ++ sites_of_type ty

-- the sites of a declaration: its annotations, and then those of what it declares
abbrev pub declared_sites : DeclaredSyntax → List Site
declared_sites d = annotations d.annotations ∷ decl_sites d.decl

-- the sites of an item: of a namespace its annotations, its path and its declarations, or those of a declaration
abbrev pub item_sites : ItemSyntax → List Site
item_sites (Namespace notes p decls loc) = annotations notes ∷ (path_sites p ++ flat_map declared_sites decls)
item_sites (Decl d) = declared_sites d

-- the sites of all items of a syntax, in turn
abbrev pub sites_of : List ItemSyntax → List Site
sites_of items = flat_map item_sites items
