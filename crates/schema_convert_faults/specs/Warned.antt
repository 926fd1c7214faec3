-- What a tree is warned of.
use Rattle.std.specs.Prelude.{◌≡◌, ◌⊎◌, true, List, [], ◌∷◌}
use Rattle.std.specs.declared.cmp.Ordering.TheVariants.{Equal}
use Rattle.cedar_data.specs.declared.node.Node.{Node}
use Rattle.cedar_identifiers.specs.declared.id.Id.{Id}
use Rattle.cedar_names.specs.declared.extension_table.ExtensionTable.{ExtensionTable}
use Rattle.schema_syntax_tree.specs.declared.annotated.Annotated.{Annotated}
use Rattle.schema_syntax_tree.specs.declared.declaration.Declaration.{Declaration}
use Rattle.schema_syntax_tree.specs.declared.namespace.Namespace.{Namespace}
use Rattle.schema_convert_errors.specs.declared.warnings.SchemaWarning.{SchemaWarning}
use Rattle.schema_convert_errors.specs.declared.warnings.SchemaWarning.TheVariants.{ShadowsBuiltin, ShadowsEntity}
use Rattle.schema_convert_openings.specs.Joined.{joined}
use Rattle.schema_convert_faults.specs.NamesIn.{entity_names_in, common_names_in, id_cmp}
use Rattle.schema_convert_faults.specs.Shadowings.{is_taken}

-- x is one of the items
abbrev pub IsAmong : {A : Type 0} → A → List A → Type 0
IsAmong x [] = ⊥
IsAmong x (y ∷ ys) = (x ≡ y) ⊎ IsAmong x ys

-- the warning says that this declared type has the name of a builtin one
abbrev pub SaysBuiltin : ExtensionTable → Node Id → SchemaWarning → Type 0
SaysBuiltin table d w = (is_taken table d.node.text ≡ true)
    × (w ≡ ShadowsBuiltin (record { name = d.node.text; loc = d.loc }))

-- the warning says that this common type has the name of this entity type
abbrev pub SaysEntity : Node Id → Node Id → SchemaWarning → Type 0
SaysEntity c e w = (id_cmp c e ≡ Equal)
    × (w ≡ ShadowsEntity (record { name = c.node.text; entity_loc = e.loc; common_loc = c.loc }))

-- the warning is of types that these declarations declare: a common type or an entity type, or one of each
abbrev pub IsOfDeclared : ExtensionTable → List (Annotated (Node Declaration)) → SchemaWarning → Type 0
IsOfDeclared table decls w =
    ((c : Node Id) × IsAmong c (common_names_in decls) × SaysBuiltin table c w)
    ⊎ ((e : Node Id) × IsAmong e (entity_names_in decls) × SaysBuiltin table e w)
    ⊎ ((c : Node Id) × IsAmong c (common_names_in decls)
    × ((e : Node Id) × IsAmong e (entity_names_in decls) × SaysEntity c e w))

-- the warning is of types that one of the joined namespaces declares
abbrev pub IsWarnedOf : List (Annotated Namespace) → ExtensionTable → SchemaWarning → Type 0
IsWarnedOf tree table w = (n : Annotated Namespace) × IsAmong n (joined tree) × IsOfDeclared table n.item.decls w
