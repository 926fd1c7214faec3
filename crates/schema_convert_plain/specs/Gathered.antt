-- What is gathered of a tree, item by item.
use Rattle.std.specs.Prelude.{◌≡◌, ℕ, Bool, true, false, List, [], ◌∷◌, ◌++◌, Option, None, Some}
use Rattle.std.specs.List.{All, AllByRecursion, AllZip, filter_map, flat_map}
use Rattle.cedar_data.specs.Maps.{map_of}
use Rattle.cedar_data.specs.Text.{text_cmp}
use Rattle.cedar_data.specs.declared.node.Node.{Node}
use Rattle.cedar_identifiers.specs.declared.name.Name.{Name}
use Rattle.cedar_identifiers.specs.declared.annotations.Annotations.{Annotations}
use Rattle.cedar_identifiers.specs.declared.raw_name.RawName.{RawName}
use Rattle.cedar_names.specs.declared.extension_table.ExtensionTable.{ExtensionTable}
use Rattle.schema_syntax_parser.specs.declared.syntax.AnnotationSyntax.{AnnotationSyntax}
use Rattle.schema_syntax_parser.specs.declared.syntax.DeclaredSyntax.{DeclaredSyntax}
use Rattle.schema_syntax_parser.specs.declared.syntax.ItemSyntax.{ItemSyntax}
use Rattle.schema_syntax_parser.specs.declared.syntax.PathSyntax.{PathSyntax}
use Rattle.schema_syntax_tree.specs.declared.annotated.Annotated.{Annotated}
use Rattle.schema_syntax_tree.specs.declared.declaration.Declaration.{Declaration}
use Rattle.schema_syntax_tree.specs.declared.namespace.Namespace.{Namespace}
use Rattle.schema_syntax_tree.specs.declared.path.Path.{Path}
use Rattle.schema_syntax_reader.specs.Leaves.{AreNotes}
use Rattle.schema_syntax_reader.specs.Placed.{NoSiteFault}
use Rattle.schema_syntax_reader.specs.Sites.{Site, annotations, path_sites, declared_sites, item_sites}
use Rattle.schema_syntax_reader.specs.Trees.{IsDeclaredOf, IsItemOf, IsPathOf}
use Rattle.schema_json.specs.declared.fragment.NamespaceDefinition.{NamespaceDefinition}
use Rattle.schema_json.specs.Orders.{unreserved_cmp, common_cmp}
use Rattle.schema_json.specs.AsWritten.{as_written}
use Rattle.schema_convert_fragments.specs.Fragments.{common_entries, entity_entries}
use Rattle.schema_convert_fragments.specs.Fragments.{action_entries, declarable_name, definition_of, namespace_entry}
use Rattle.schema_convert_types.specs.Names.{internal_name_of}
use Rattle.schema_convert_fragments.specs.declared.namespaces.Entries.{Entries}
use Rattle.schema_convert_openings.specs.Joined.{named, outside}
use Rattle.schema_convert_faults.specs.Faults.{is_reserved_path}
use Rattle.schema_convert_plain.specs.Plain.{IsPlainDeclaration, AreOnce, AreUnlike, ArePlain, IsPlainNamespace}
use Rattle.schema_convert_plain.specs.declared.gathering.Gathered.{Gathered}

-- each of the declarations is plain by itself
abbrev pub EachPlain : ExtensionTable → List (Annotated (Node Declaration)) → Type 0
EachPlain table decls = AllByRecursion (λ d. IsPlainDeclaration table d.item.node) decls

-- the entries after are those before, and those of these declarations, each of which is plain
pub record AddsEntries (table : ExtensionTable) (before after : Entries) (decls : List (Annotated (Node Declaration)))
    : Type 0 where
  pub commons : after.commons.items ≡ before.commons.items ++ common_entries decls
  pub entities : after.entities.items ≡ before.entities.items ++ entity_entries decls
  pub actions : after.actions.items ≡ before.actions.items ++ action_entries decls
  pub plain : EachPlain table decls

-- what the entries define, where no name stands twice among them
pub record IsOwn (entries : Entries) (notes : Annotations) (d : NamespaceDefinition RawName as_written) : Type 0 where
  pub is : d ≡ record {
    common_types = map_of common_cmp entries.commons.items;
    entity_types = map_of unreserved_cmp entries.entities.items;
    actions = map_of text_cmp entries.actions.items;
    annotations = notes;
  }
  pub commons_once : AreOnce common_cmp entries.commons.items
  pub entities_once : AreOnce unreserved_cmp entries.entities.items
  pub actions_once : AreOnce text_cmp entries.actions.items
  pub unlike : AreUnlike d.common_types d.entity_types

-- what was gathered is of the items of this tree, of which nothing is to be said so far
pub record IsGatheredOf (table : ExtensionTable) (tree : List (Annotated Namespace)) (g : Gathered) : Type 0 where
  pub namespaces : g.namespaces.items ≡ filter_map namespace_entry (named tree)
  pub each : AllByRecursion (IsPlainNamespace table) (named tree)
  pub commons : g.outside.commons.items ≡ common_entries (outside tree)
  pub entities : g.outside.entities.items ≡ entity_entries (outside tree)
  pub actions : g.outside.actions.items ≡ action_entries (outside tree)
  pub plain : EachPlain table (outside tree)
  pub none : g.has_outside ≡ false → outside tree ≡ []
  pub some : g.has_outside ≡ true → outside tree ≡ [] → ⊥

-- a declaration outside of every namespace is gathered too
pub record AddsOutside (table : ExtensionTable) (before after : Gathered) (decl : Annotated (Node Declaration))
    : Type 0 where
  pub entries : AddsEntries table before.outside after.outside (decl ∷ [])
  pub others : after.namespaces.items ≡ before.namespaces.items
  pub some : after.has_outside ≡ true

-- the declarations were read, none of their words and strings is at fault, and what they declare is there too
pub record AddsRead (source : List ℕ) (table : ExtensionTable) (raws : List DeclaredSyntax) (before after : Entries)
    : Type 0 where
  pub decls : List (Annotated (Node Declaration))
  pub are : AllZip (IsDeclaredOf source) raws decls
  pub lawful : All (NoSiteFault source) (flat_map declared_sites raws)
  pub adds : AddsEntries table before after decls

-- the declarations were read, and this is what they define together
pub record IsGatheredAs (source : List ℕ) (table : ExtensionTable) (raws : List DeclaredSyntax) (notes : Annotations)
    (d : NamespaceDefinition RawName as_written) : Type 0 where
  pub decls : List (Annotated (Node Declaration))
  pub are : AllZip (IsDeclaredOf source) raws decls
  pub lawful : All (NoSiteFault source) (flat_map declared_sites raws)
  pub is : d ≡ definition_of decls notes
  pub plain : ArePlain table decls

-- the sites of a namespace that has a name
abbrev pub named_sites : List AnnotationSyntax → PathSyntax → List DeclaredSyntax → List Site
named_sites list name raws = annotations list ∷ (path_sites name ++ flat_map declared_sites raws)

-- the namespace was read, its entry is there too, and nothing is to be said of it
pub record AddsNamed (source : List ℕ) (table : ExtensionTable) (list : List AnnotationSyntax) (name : PathSyntax)
    (raws : List DeclaredSyntax) (before after : List (Option Name × NamespaceDefinition RawName as_written))
    : Type 0 where
  pub path : Path
  pub notes : Annotations
  pub key : Name
  pub definition : NamespaceDefinition RawName as_written
  pub names : IsPathOf source name path
  pub noted : AreNotes source list notes.0
  pub lawful : All (NoSiteFault source) (annotations list ∷ path_sites name)
  pub free : is_reserved_path path ≡ false
  pub keyed : declarable_name (internal_name_of path) ≡ Some key
  pub read : IsGatheredAs source table raws notes definition
  pub entry : after ≡ before ++ (Some key, definition) ∷ []

-- a namespace that has a name is gathered too
pub record AddsNamespace (source : List ℕ) (table : ExtensionTable) (list : List AnnotationSyntax) (name : PathSyntax)
    (raws : List DeclaredSyntax) (before after : Gathered) : Type 0 where
  pub entries : AddsNamed source table list name raws before.namespaces.items after.namespaces.items
  pub outside : after.outside ≡ before.outside
  pub same : after.has_outside ≡ before.has_outside

-- what the item stands for is gathered too, and none of its words and strings is at fault
pub record AddsItem (source : List ℕ) (table : ExtensionTable) (item : ItemSyntax) (before after : Gathered)
    : Type 0 where
  pub namespace : Annotated Namespace
  pub is : IsItemOf source item namespace
  pub lawful : All (NoSiteFault source) (item_sites item)
  pub grown : (tree : List (Annotated Namespace)) → IsGatheredOf table tree before
      → IsGatheredOf table (tree ++ namespace ∷ []) after

-- the entries of the namespaces, and where declarations stand outside of these, the entry of what they define
abbrev pub AddsOwn : Bool → Entries → List (Option Name × NamespaceDefinition RawName as_written)
    → List (Option Name × NamespaceDefinition RawName as_written) → Type 0
AddsOwn false outside before after = after ≡ before
AddsOwn true outside before after = (d : NamespaceDefinition RawName as_written)
    × IsOwn outside (record { 0 = [] }) d × (after ≡ before ++ (None, d) ∷ [])
