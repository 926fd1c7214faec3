-- What is said of a fragment that cannot be printed, in characters.
use Rattle.std.specs.Prelude.{ℕ, List, ◌++◌, map, codes, Option, Some, None}
use Rattle.cedar_data.specs.Rows.{joined_by}
use Rattle.cedar_identifiers.specs.Names.{components_of, name_text}
use Rattle.cedar_identifiers.specs.declared.internal_name.InternalName.{InternalName}
use Rattle.schema_print_errors.specs.declared.syntax_error.ToCedarSchemaSyntaxError.{ToCedarSchemaSyntaxError}
use Rattle.schema_print_errors.specs.declared.syntax_error.ToCedarSchemaSyntaxError.TheVariants.{NameCollisions}
use Rattle.schema_print_errors.specs.declared.syntax_error.ToCedarSchemaSyntaxError.TheVariants.{UnconvertibleEntityTypeShape}
use Rattle.schema_print_errors.specs.declared.syntax_error.ToCedarSchemaSyntaxError.TheVariants.{Memory}

abbrev pub texts_of_names : List InternalName → List (List ℕ)
texts_of_names names = map (λ n. name_text (components_of n)) names

-- the names with `, ` between two
abbrev pub names_list : List InternalName → List ℕ
names_list names = joined_by (codes ", ") (texts_of_names names)

-- what is said of names that collide
abbrev pub collisions_text : List InternalName → List ℕ
collisions_text names = codes "There are name collisions: [" ++ (names_list names ++ codes "]")

-- what is said of entity types with shapes that cannot be printed
abbrev pub shapes_text : List InternalName → List ℕ
shapes_text names =
    codes "The following entities have shapes that cannot be converted to Cedar schema syntax: ["
    ++ (names_list names ++ codes "]")

-- the advice where shapes cannot be printed
abbrev pub shapes_help : List ℕ
shapes_help =
    codes "Entity shapes may only be record types. In the Cedar schema syntax, they additionally may not reference common type definitions."

-- what is said of a fragment that cannot be printed
abbrev pub syntax_error_text : ToCedarSchemaSyntaxError → List ℕ
syntax_error_text (NameCollisions e) = collisions_text e.names
syntax_error_text (UnconvertibleEntityTypeShape e) = shapes_text e.names
syntax_error_text Memory = codes "out of memory"

-- the advice where a fragment cannot be printed, which it gives on shapes alone
abbrev pub syntax_error_help : ToCedarSchemaSyntaxError → Option (List ℕ)
syntax_error_help (UnconvertibleEntityTypeShape e) = Some shapes_help
syntax_error_help _ = None
