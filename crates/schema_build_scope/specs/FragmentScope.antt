-- What the names of a fragment mean where its types are expanded.
use Rattle.std.specs.Prelude.{ℕ, List, [], map, Option, None}
use Rattle.std.specs.Option.{option_map}
use Rattle.cedar_identifiers.specs.Names.{components_of}
use Rattle.cedar_identifiers.specs.declared.internal_name.InternalName.{InternalName}
use Rattle.cedar_identifiers.specs.declared.name_text.NameText as named
use Rattle.cedar_identifiers.specs.declared.raw_name.RawName.{RawName}
use Rattle.cedar_identifiers.specs.declared.reference_type.ReferenceType.{ReferenceType}
use Rattle.cedar_names.specs.Tables.{table_names}
use Rattle.cedar_names.specs.declared.extension_table.ExtensionTable.{ExtensionTable}
use Rattle.schema_json.specs.declared.fragment.Fragment.{Fragment}
use Rattle.schema_resolve_definitions.specs.Defined.{defined}
use Rattle.schema_resolve_definitions.specs.Tests.{Tests, tests_of}
use Rattle.schema_resolve_targets.specs.Meanings.{means}
use Rattle.schema_build_expand.specs.Scope.{Scope, DeclaredType}
use Rattle.schema_build_scope.specs.Commons.{TypeAt, commons_in_order}

-- a name and what it is there, with the name as its components
abbrev pub by_components : InternalName × ReferenceType → List (List ℕ) × ReferenceType
by_components m = (components_of m.0, m.1)

-- what a reference in a namespace means, where it is known what is defined
abbrev pub meant_in : Tests → Option InternalName → ReferenceType → RawName → Option (List (List ℕ) × ReferenceType)
meant_in t ns kind name = option_map by_components (means t ns kind name)

-- a declared common type, as types are expanded
abbrev pub declaration : InternalName × TypeAt → DeclaredType RawName
declaration e = record { name = components_of e.0; place = e.1.place; ty = e.1.ty }

-- what the references of a fragment mean under a table, and the common types that it declares, by their full names
abbrev pub fragment_scope : {G : named.Ghosts RawName} → Fragment RawName G → ExtensionTable → Scope RawName
fragment_scope f table = record {
  means = meant_in (tests_of (defined f table));
  commons = map declaration (commons_in_order f);
  words = table_names table;
}

-- the words of a table, where nothing is declared
abbrev pub table_scope : ExtensionTable → Scope RawName
table_scope table = record { means = λ ns kind name. None; commons = []; words = table_names table }
