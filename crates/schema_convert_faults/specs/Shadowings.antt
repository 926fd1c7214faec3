-- Which declared names hide others.
use Rattle.std.specs.Prelude.{ℕ, Bool, ◌||◌, List, [], ◌∷◌, ◌++◌, map, Option, Some, None, codes, if◌then◌else◌}
use Rattle.std.specs.BTreeMap.{is_at}
use Rattle.std.specs.List.{flat_map, list_any}
use Rattle.std.specs.Map.{lookup}
use Rattle.std.specs.Option.{option_cmp}
use Rattle.std.specs.Str.{bytes_eq}
use Rattle.cedar_data.specs.Maps.{map_of}
use Rattle.cedar_data.specs.declared.node.Node.{Node}
use Rattle.cedar_identifiers.specs.declared.id.Id.{Id}
use Rattle.cedar_names.specs.Tables.{table_has}
use Rattle.cedar_names.specs.declared.extension_table.ExtensionTable.{ExtensionTable}
use Rattle.cedar_names.specs.Orders.{id_text_order}
use Rattle.schema_syntax_tree.specs.declared.annotated.Annotated.{Annotated}
use Rattle.schema_syntax_tree.specs.declared.declaration.Declaration.{Declaration}
use Rattle.schema_syntax_tree.specs.declared.namespace.Namespace.{Namespace}
use Rattle.schema_syntax_tree.specs.declared.path.Path.{Path}
use Rattle.schema_convert_errors.specs.declared.warnings.SchemaWarning.{SchemaWarning}
use Rattle.schema_convert_errors.specs.declared.warnings.SchemaWarning.TheVariants.{ShadowsBuiltin, ShadowsEntity}
use Rattle.schema_convert_openings.specs.Joined.{joined, path_cmp}
use Rattle.schema_convert_faults.specs.NamesIn.{entity_names_in, common_names_in}

-- declared names, sorted by their texts
abbrev pub by_id : List (Node Id) → List (Id × Node Id)
by_id names = map_of id_text_order (map (λ n. (n.node, n)) names)

-- the word is the name of a type that every schema has
abbrev pub is_primitive_name : List ℕ → Bool
is_primitive_name w = list_any (λ b. bytes_eq w b) (codes "Long" ∷ codes "String" ∷ codes "Bool" ∷ [])

-- the word is the name of a type that every schema has, or of one of the table's
abbrev pub is_taken : ExtensionTable → List ℕ → Bool
is_taken table w = is_primitive_name w || table_has table w

-- a declared type that is named so
abbrev pub builtin_shadowed : ExtensionTable → Node Id → List SchemaWarning
builtin_shadowed table name = if is_taken table name.node.text then ShadowsBuiltin
    (record { name = name.node.text; loc = name.loc }) ∷ [] else []

-- the warning that a common type hides this entity type, where there is one
abbrev pub entity_shadowed : Option (Node Id) → Node Id → List SchemaWarning
entity_shadowed None common = []
entity_shadowed (Some entity) common =
    ShadowsEntity (record { name = common.node.text; entity_loc = entity.loc; common_loc = common.loc }) ∷ []

abbrev pub common_warnings : ExtensionTable → List (Id × Node Id) → Node Id → List SchemaWarning
common_warnings table entities common =
    entity_shadowed (lookup (is_at (id_text_order common.node)) entities) common ++ builtin_shadowed table common

-- the warnings of a namespace: those of each common type in turn, that it hides an entity type first, and then those of
-- each entity type
abbrev pub warnings_in : ExtensionTable → List (Id × Node Id) → List (Id × Node Id) → List SchemaWarning
warnings_in table commons entities =
    flat_map (λ c. common_warnings table entities c.1) commons ++ flat_map (λ e. builtin_shadowed table e.1) entities

abbrev pub declared_warnings : ExtensionTable → List (Annotated (Node Declaration)) → List SchemaWarning
declared_warnings table decls = warnings_in table (by_id (common_names_in decls)) (by_id (entity_names_in decls))

-- the namespaces, sorted by their names; the empty one is the first
abbrev pub by_name : List (Annotated Namespace) → List (Option Path × Annotated Namespace)
by_name namespaces = map_of (option_cmp path_cmp) (map (λ n. (n.item.name, n)) namespaces)

-- the warnings of these namespaces, in the order of their names
abbrev pub warnings_of : ExtensionTable → List (Annotated Namespace) → List SchemaWarning
warnings_of table namespaces = flat_map (λ n. declared_warnings table n.1.item.decls) (by_name namespaces)

-- The warnings of a tree.
abbrev pub shadowings : List (Annotated Namespace) → ExtensionTable → List SchemaWarning
shadowings tree table = warnings_of table (joined tree)
