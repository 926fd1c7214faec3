-- What keeps a tree from being a fragment.
use Rattle.std.specs.Prelude.{ℕ, Bool, List, [], ◌∷◌, Option, Some, None, codes, if◌then◌else◌}
use Rattle.std.specs.List.{filter_map, flat_map, list_any}
use Rattle.std.specs.Option.{option_or, option_to_list}
use Rattle.cedar_data.specs.declared.node.Node.{Node}
use Rattle.cedar_data.specs.Rows.{joined_by}
use Rattle.cedar_identifiers.specs.Names.{texts_of}
use Rattle.cedar_identifiers.specs.Words.{is_cedar}
use Rattle.cedar_identifiers.specs.declared.id.Id.{Id}
use Rattle.schema_syntax_tree.specs.declared.action_decl.ActionDecl.TheVariants.{Defined, External}
use Rattle.schema_syntax_tree.specs.declared.annotated.Annotated.{Annotated}
use Rattle.schema_syntax_tree.specs.declared.app_decl.AppDecl.{AppDecl}
use Rattle.schema_syntax_tree.specs.declared.declaration.Declaration.{Declaration}
use Rattle.schema_syntax_tree.specs.declared.declaration.Declaration.TheVariants.{Entity, Action, Common}
use Rattle.schema_syntax_tree.specs.declared.namespace.Namespace.{Namespace}
use Rattle.schema_syntax_tree.specs.declared.path.Path.{Path}
use Rattle.schema_json.specs.Keywords.{is_keyword_name}
use Rattle.schema_convert_errors.specs.declared.errors.ToJsonSchemaError.{ToJsonSchemaError}
use Rattle.schema_convert_errors.specs.declared.errors.ToJsonSchemaError.TheVariants.{DuplicateDeclarations}
use Rattle.schema_convert_errors.specs.declared.errors.ToJsonSchemaError.TheVariants.{ReservedName}
use Rattle.schema_convert_errors.specs.declared.errors.ToJsonSchemaError.TheVariants.{ReservedSchemaKeyword}
use Rattle.schema_convert_openings.specs.Joined.{joined}
use Rattle.schema_convert_faults.specs.Members.{block_fault}
use Rattle.schema_convert_faults.specs.NamesIn.{entity_names_in, action_names_in, common_names_in, id_cmp, action_cmp}
use Rattle.schema_convert_openings.specs.Repeats.{first_repeat}

-- the ids with `::` between two
abbrev pub path_text : Path → List ℕ
path_text path = joined_by (codes "::") (texts_of path.ids)

-- a name is reserved where an id in it is `__cedar`
abbrev pub is_reserved_path : Path → Bool
is_reserved_path path = list_any (λ id. is_cedar id.text) path.ids

abbrev pub reserved_namespace : Option Path → Option ToJsonSchemaError
reserved_namespace None = None
reserved_namespace (Some path) =
    if is_reserved_path path then Some (ReservedName (record { name = path_text path; loc = path.loc })) else None

-- a name that stands twice, with both places
abbrev pub twice : {K : Type 0} → (K → List ℕ) → Option (Node K × Node K) → Option ToJsonSchemaError
twice text None = None
twice text (Some p) = Some (DuplicateDeclarations (record { decl = text p.1.node; loc1 = p.0.loc; loc2 = p.1.loc }))

abbrev pub id_twice : List (Node Id) → Option ToJsonSchemaError
id_twice names = twice (λ id. id.text) (first_repeat id_cmp names)

abbrev pub action_twice : List (Node (List ℕ)) → Option ToJsonSchemaError
action_twice names = twice (λ text. text) (first_repeat action_cmp names)

-- the first repeat of a namespace's entity types, or else of its actions, or else of its common types
abbrev pub declared_twice : List (Annotated (Node Declaration)) → Option ToJsonSchemaError
declared_twice decls =
    option_or (id_twice (entity_names_in decls))
    (option_or (action_twice (action_names_in decls)) (id_twice (common_names_in decls)))

-- The first step: the name of a namespace, or else a repeat in it.
abbrev pub name_fault : Annotated Namespace → Option ToJsonSchemaError
name_fault n = option_or (reserved_namespace n.item.name) (declared_twice n.item.decls)

-- a declared name that is reserved
abbrev pub reserved_id : Node Id → Option ToJsonSchemaError
reserved_id id = if is_cedar id.node.text then Some
    (ReservedName (record { name = id.node.text; loc = id.loc })) else None

-- a common type's name that is one of the eight words that no common type may have
abbrev pub keyword : Node Id → Option ToJsonSchemaError
keyword id = if is_keyword_name id.node.text then Some
    (ReservedSchemaKeyword (record { keyword = id.node.text; loc = id.loc })) else None

abbrev pub common_fault : Node Id → Option ToJsonSchemaError
common_fault id = option_or (reserved_id id) (keyword id)

-- the first fault of the block of a declaration of these actions, where it has one; it names the first of them
abbrev pub applies_fault : Option (Node (List (Node AppDecl))) → List (Node (List ℕ)) → Option ToJsonSchemaError
applies_fault None names = None
applies_fault (Some block) [] = None
applies_fault (Some block) (name ∷ names) = block_fault name block.node

-- the fault of a declaration of actions: that of its block, where it has one
abbrev pub action_fault : Declaration → Option ToJsonSchemaError
action_fault (Entity d) = None
action_fault (Action (Defined d)) = applies_fault d.app_decls d.names
action_fault (Action (External d)) = None
action_fault (Common d) = None

-- the first that there is, of the items in turn
abbrev pub first_some : {A B : Type 0} → (A → Option B) → List A → Option B
first_some f [] = None
first_some f (x ∷ xs) = option_or (f x) (first_some f xs)

-- these, or where there are none the others
abbrev pub or_else : List ToJsonSchemaError → List ToJsonSchemaError → List ToJsonSchemaError
or_else [] others = others
or_else (fault ∷ faults) others = fault ∷ faults

-- The second step: all reserved names of entity types, or else the first fault of each action declaration, or else the
-- first fault of a common type's name.
abbrev pub entity_faults : List (Annotated (Node Declaration)) → List ToJsonSchemaError
entity_faults decls = filter_map reserved_id (entity_names_in decls)

abbrev pub action_faults : List (Annotated (Node Declaration)) → List ToJsonSchemaError
action_faults decls = filter_map (λ d. action_fault d.item.node) decls

abbrev pub common_faults : List (Annotated (Node Declaration)) → List ToJsonSchemaError
common_faults decls = option_to_list (first_some common_fault (common_names_in decls))

abbrev pub declaration_faults : List (Annotated (Node Declaration)) → List ToJsonSchemaError
declaration_faults decls = or_else (entity_faults decls) (or_else (action_faults decls) (common_faults decls))

abbrev pub all_declaration_faults : List (Annotated Namespace) → List ToJsonSchemaError
all_declaration_faults namespaces = flat_map (λ n. declaration_faults n.item.decls) namespaces

-- The faults of the first of the two steps that finds any, over all namespaces in order.
abbrev pub faults_in : List (Annotated Namespace) → List ToJsonSchemaError
faults_in namespaces =
    or_else (filter_map name_fault namespaces) (all_declaration_faults namespaces)

-- The faults of a tree: those of its joined namespaces.
abbrev pub translation_faults : List (Annotated Namespace) → List ToJsonSchemaError
translation_faults tree = faults_in (joined tree)
