-- What is said of what a schema may not use.
use Rattle.std.specs.Prelude.{ℕ, List, ◌++◌, map, codes}
use Rattle.std.specs.List.{flat_map}
use Rattle.cedar_data.specs.Rows.{and_list, by_number}
use Rattle.cedar_data.specs.declared.label.Label.{Label}
use Rattle.cedar_identifiers.specs.Names.{components_of, name_text}
use Rattle.cedar_identifiers.specs.declared.name.Name.{Name}
use Rattle.schema_resolve_errors.specs.ErrorTexts.{name_labels}
use Rattle.schema_build_errors.specs.declared.use_errors.UnknownExtensionTypeError.{UnknownExtensionTypeError}
use Rattle.schema_build_errors.specs.declared.use_errors.UnsupportedFeatureError.{UnsupportedFeatureError}
use Rattle.schema_build_errors.specs.declared.use_errors.UndeclaredEntityTypesError.{UndeclaredEntityTypesError}

-- what is said of an extension type that is not in the table
abbrev pub unknown_extension_text : UnknownExtensionTypeError → List ℕ
unknown_extension_text e = codes "unknown extension type `" ++ (name_text (components_of e.actual.name) ++ codes "`")

-- what is said of a fragment that has what no schema has
abbrev pub unsupported_text : UnsupportedFeatureError → List ℕ
unsupported_text e = codes "unsupported feature used in schema"

-- the texts of the names, in order
abbrev pub declared_texts : List Name → List (List ℕ)
declared_texts names = map (λ n. name_text (components_of n.name)) names

-- what is said of entity types that are not declared, all of which are named
abbrev pub undeclared_types_text : UndeclaredEntityTypesError → List ℕ
undeclared_types_text e =
    by_number (codes "undeclared entity type: ") (codes "undeclared entity types: ") (declared_texts e.types)
    ++ and_list (declared_texts e.types)

-- the advice where entity types are not declared
abbrev pub undeclared_types_help : List ℕ
undeclared_types_help = codes "any entity types appearing anywhere in a schema need to be declared in `entityTypes`"

-- the places of the names, in order
abbrev pub undeclared_labels : List Name → List Label
undeclared_labels names = flat_map (λ n. name_labels n.name) names
