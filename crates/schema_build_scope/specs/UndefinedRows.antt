-- References of a fragment that mean nothing: the error names them all, in the order of the walk.
use Rattle.std.specs.Prelude.{◌≡◌, ◌≢◌, List, []}
use Rattle.cedar_identifiers.specs.declared.name_text.NameText as named
use Rattle.cedar_identifiers.specs.declared.raw_name.RawName.{RawName}
use Rattle.cedar_names.specs.declared.extension_table.ExtensionTable.{ExtensionTable}
use Rattle.schema_json.specs.declared.fragment.Fragment.{Fragment}
use Rattle.schema_resolve_definitions.specs.Defined.{defined}
use Rattle.schema_resolve_definitions.specs.Tests.{tests_of}
use Rattle.schema_resolve_targets.specs.Gathered.{uids}
use Rattle.schema_resolve_targets.specs.Untargeted.{undefined}
use Rattle.schema_resolve_targets.specs.Undefined.{Undefined, types_among, actions_among}
use Rattle.schema_build_errors.specs.declared.schema_error.SchemaError.{SchemaError}
use Rattle.schema_build_errors.specs.declared.schema_error.SchemaError.TheVariants.{TypeNotDefined, ActionNotDefined}

-- the error names these references to types, of which there are some
abbrev pub NamesTypes : List Undefined → SchemaError → Type 0
NamesTypes found (TypeNotDefined e) = (e.undefined_types ≡ types_among found) × (types_among found ≢ [])
NamesTypes found _ = ⊥

-- the error names these references to actions, of which there are some
abbrev pub NamesActions : List Undefined → SchemaError → Type 0
NamesActions found (ActionNotDefined e) = (uids e.0 ≡ actions_among found) × (actions_among found ≢ [])
NamesActions found _ = ⊥

module _ {G : named.Ghosts RawName} where
  -- the references that mean nothing where the fragment stands alone under this table
  abbrev pub undefined_alone : Fragment RawName G → ExtensionTable → List Undefined
  undefined_alone f table = undefined (tests_of (defined f table)) f

  -- references to types mean nothing: the error names all of them
  abbrev pub HasUndefinedTypes : Fragment RawName G → ExtensionTable → SchemaError → Type 0
  HasUndefinedTypes f table = NamesTypes (undefined_alone f table)

  -- references to actions mean nothing: the error names all of them
  abbrev pub HasUndefinedActions : Fragment RawName G → ExtensionTable → SchemaError → Type 0
  HasUndefinedActions f table = NamesActions (undefined_alone f table)
