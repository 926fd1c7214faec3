-- Fragments that are the same, places and annotations of namespaces aside.
use Rattle.std.specs.Prelude.{◌≡◌, [], Option}
use Rattle.std.specs.Option.{option_map}
use Rattle.cedar_identifiers.specs.declared.internal_name.InternalName.{InternalName}
use Rattle.cedar_identifiers.specs.declared.name.Name.{Name}
use Rattle.cedar_identifiers.specs.declared.raw_name.RawName.{RawName}
use Rattle.schema_json.specs.declared.fragment.Fragment.{Fragment}
use Rattle.schema_json.specs.declared.fragment.NamespaceDefinition.{NamespaceDefinition}
use Rattle.schema_json.specs.AsWritten.{as_written}
use Rattle.laws_translate.specs.Bare.{bare_internal}
use Rattle.laws_translate.specs.BareFragments.{bare_declared, bare_entries, bare_namespace}

-- the name of a namespace without places
abbrev pub bare_space : Option Name → Option Name
bare_space ns = option_map bare_declared ns

abbrev pub bare_place : Option InternalName → Option InternalName
bare_place ns = option_map bare_internal ns

-- what the namespace declares, without places, and without its annotations
abbrev pub declarations_alone : NamespaceDefinition RawName as_written → NamespaceDefinition RawName as_written
declarations_alone n =
    let b = bare_namespace n in
    record {
      common_types = b.common_types;
      entity_types = b.entity_types;
      actions = b.actions;
      annotations =
          record { 0 = [] };
    }

-- what the fragment declares, without places, and without annotations of namespaces
abbrev pub declared_alone : Fragment RawName as_written → Fragment RawName as_written
declared_alone f = record { 0 = bare_entries bare_space declarations_alone f.0 }

-- The fragments declare the same: they are the same, places and annotations of namespaces aside.
abbrev pub DeclareTheSame : Fragment RawName as_written → Fragment RawName as_written → Type 0
DeclareTheSame f g = declared_alone f ≡ declared_alone g
