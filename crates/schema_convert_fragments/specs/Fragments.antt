-- The namespaces of a tree, in a fragment.
use Rattle.std.specs.Prelude.{◌≡◌, ℕ, Bool, true, false, List, [], ◌∷◌, map, Option, Some, None, option_map, refl}
use Rattle.std.specs.List.{filter_map, flat_map}
use Rattle.cedar_data.specs.Maps.{map_of}
use Rattle.cedar_data.specs.Span.{Span}
use Rattle.cedar_data.specs.Text.{text_cmp}
use Rattle.cedar_data.specs.declared.node.Node.{Node}
use Rattle.cedar_identifiers.specs.Names.{components_of, has_cedar}
use Rattle.cedar_identifiers.specs.declared.annotations.Annotations.{Annotations}
use Rattle.cedar_identifiers.specs.declared.internal_name.InternalName.{InternalName}
use Rattle.cedar_identifiers.specs.declared.name.Name.{Name}
use Rattle.cedar_identifiers.specs.declared.raw_name.RawName.{RawName}
use Rattle.cedar_identifiers.specs.declared.unreserved_id.UnreservedId.{UnreservedId}
use Rattle.schema_syntax_tree.specs.DeclaredNames.{entity_names, action_names}
use Rattle.schema_syntax_tree.specs.declared.annotated.Annotated.{Annotated}
use Rattle.schema_syntax_tree.specs.declared.declaration.Declaration.{Declaration}
use Rattle.schema_syntax_tree.specs.declared.declaration.Declaration.TheVariants.{Entity, Action, Common}
use Rattle.schema_syntax_tree.specs.declared.namespace.Namespace.{Namespace}
use Rattle.schema_syntax_tree.specs.declared.path.Path.{Path}
use Rattle.schema_json.specs.declared.action_type.ActionType.{ActionType}
use Rattle.schema_json.specs.declared.common_type.CommonType.{CommonType}
use Rattle.schema_json.specs.declared.common_type.CommonTypeId.{CommonTypeId}
use Rattle.schema_json.specs.declared.entity_type.EntityType.{EntityType}
use Rattle.schema_json.specs.declared.fragment.Fragment.{Fragment}
use Rattle.schema_json.specs.declared.fragment.NamespaceDefinition.{NamespaceDefinition}
use Rattle.schema_json.specs.Orders.{unreserved_cmp, common_cmp, namespace_cmp}
use Rattle.schema_json.specs.AsWritten.{as_written}
use Rattle.schema_convert_types.specs.Names.{internal_name_of}
use Rattle.schema_convert_types.specs.Types.{type_of}
use Rattle.schema_convert_fragments.specs.Declarations.{entity_type_of, action_type_of, declarable, unreserved}
use Rattle.schema_convert_fragments.specs.Declarations.{each_with}

-- the entity types that a declaration declares, with its annotations and its place
abbrev pub entity_entries_of : Declaration → Annotations → Option Span → List (UnreservedId × EntityType RawName)
entity_entries_of (Entity d) notes loc = each_with (entity_type_of d notes loc) (declarable (entity_names d))
entity_entries_of (Action d) notes loc = []
entity_entries_of (Common d) notes loc = []

-- the actions that a declaration declares, with its annotations and its place
abbrev pub action_entries_of : Declaration → Annotations → Option Span → List (List ℕ × ActionType RawName as_written)
action_entries_of (Entity d) notes loc = []
action_entries_of (Action d) notes loc = each_with (action_type_of d notes loc) (map (λ n. n.node) (action_names d))
action_entries_of (Common d) notes loc = []

-- the common type under its name, where that may be declared
abbrev pub common_entry : Option UnreservedId → CommonType RawName → List (CommonTypeId × CommonType RawName)
common_entry None of = []
common_entry (Some id) of = (record { id = id }, of) ∷ []

-- the common type that a declaration declares, if it declares one, with its annotations and its place
abbrev pub common_entries_of : Declaration → Annotations → Option Span → List (CommonTypeId × CommonType RawName)
common_entries_of (Entity d) notes loc = []
common_entries_of (Action d) notes loc = []
common_entries_of (Common d) notes loc =
    common_entry (unreserved d.name.node) (record { ty = type_of d.def; annotations = notes; loc = loc })

-- the entity types that declarations declare, in turn
abbrev pub entity_entries : List (Annotated (Node Declaration)) → List (UnreservedId × EntityType RawName)
entity_entries decls = flat_map (λ d. entity_entries_of d.item.node d.annotations d.item.loc) decls

-- the actions that declarations declare, in turn
abbrev pub action_entries : List (Annotated (Node Declaration)) → List (List ℕ × ActionType RawName as_written)
action_entries decls = flat_map (λ d. action_entries_of d.item.node d.annotations d.item.loc) decls

-- the common types that declarations declare, in turn
abbrev pub common_entries : List (Annotated (Node Declaration)) → List (CommonTypeId × CommonType RawName)
common_entries decls = flat_map (λ d. common_entries_of d.item.node d.annotations d.item.loc) decls

-- what a namespace with these declarations and annotations defines
abbrev pub definition_of : List (Annotated (Node Declaration)) → Annotations → NamespaceDefinition RawName as_written
definition_of decls notes =
    record {
      common_types = map_of common_cmp (common_entries decls);
      entity_types = map_of unreserved_cmp (entity_entries decls);
      actions = map_of text_cmp (action_entries decls);
      annotations = notes;
    }

-- the name as one that may be declared, which no name with `__cedar` in it is
abbrev pub declarable_name_so : (name : InternalName) (b : Bool) → has_cedar (components_of name) ≡ b → Option Name
declarable_name_so name true e = None
declarable_name_so name false e = Some (record { name = name; unreserved = e })

-- the name as one that may be declared, where none of its components is `__cedar`
abbrev pub declarable_name : InternalName → Option Name
declarable_name name = declarable_name_so name (has_cedar (components_of name)) refl

-- the name of a namespace that may be declared: none for the empty one
abbrev pub namespace_key : Option Path → Option (Option Name)
namespace_key None = Some None
namespace_key (Some path) = option_map Some (declarable_name (internal_name_of path))

abbrev pub namespace_entry : Annotated Namespace → Option (Option Name × NamespaceDefinition RawName as_written)
namespace_entry n = option_map (λ key. (key, definition_of n.item.decls n.annotations)) (namespace_key n.item.name)

-- The fragment of these namespaces.
abbrev pub fragment_of : List (Annotated Namespace) → Fragment RawName as_written
fragment_of namespaces = record { 0 = map_of namespace_cmp (filter_map namespace_entry namespaces) }
