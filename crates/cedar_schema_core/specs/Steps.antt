-- What each step of recovering refuses.
use Rattle.std.specs.Prelude.{ℕ, List}
use Rattle.cedar_identifiers.specs.declared.name_text.NameText as named
use Rattle.cedar_identifiers.specs.declared.raw_name.RawName.{RawName}
use Rattle.cedar_names.specs.Meaning.{SchemaMeaning}
use Rattle.cedar_names.specs.declared.extension_table.ExtensionTable.{ExtensionTable}
use Rattle.schema_json.specs.declared.fragment.Fragment.{Fragment}
use Rattle.schema_build_parts.specs.BuildFaults.{BuildFault}
use Rattle.schema_build_text.specs.Captured.{IsFirstCaptured}
use Rattle.cedar_schema_core_faults.specs.declared.recover_error.RecoverError.{RecoverError}
use Rattle.cedar_schema_core_faults.specs.declared.recover_error.RecoverError.TheVariants.{Parse, Schema, Captured}
use Rattle.cedar_schema_core_faults.specs.declared.recover_error.RecoverError.TheVariants.{Memory}
use Rattle.schema_build.specs.Texts.{IsParseRefusal}
use Rattle.cedar_schema_core.specs.declared.json_texts.JsonForm.{JsonForm}
use Rattle.cedar_schema_core.specs.Json.{IsReadError}

-- the text is translated to nothing
abbrev pub IsUnparsed : List ℕ → RecoverError → Type 0
IsUnparsed text (Parse e) = IsParseRefusal text e
IsUnparsed text (Schema e) = ⊥
IsUnparsed text (Captured c) = ⊥
IsUnparsed text Memory = Unit {0}

-- the JSON text is read as nothing
abbrev pub IsUnread : JsonForm → List ℕ → RecoverError → Type 0
IsUnread form text (Parse e) = ⊥
IsUnread form text (Schema e) = IsReadError form text e
IsUnread form text (Captured c) = ⊥
IsUnread form text Memory = Unit {0}

-- no schema is built of the fragment
abbrev pub IsUnbuilt : {G : named.Ghosts RawName} → Fragment RawName G → ExtensionTable → RecoverError → Type 0
IsUnbuilt f table (Parse e) = ⊥
IsUnbuilt f table (Schema e) = BuildFault f table e
IsUnbuilt f table (Captured c) = ⊥
IsUnbuilt f table Memory = Unit {0}

-- the meaning is not printed
abbrev pub IsUnprinted : SchemaMeaning → RecoverError → Type 0
IsUnprinted m (Parse e) = ⊥
IsUnprinted m (Schema e) = ⊥
IsUnprinted m (Captured c) = IsFirstCaptured m c
IsUnprinted m Memory = Unit {0}
