-- Parts of a fragment that no schema has: the first in the order of the walk is the fault.
use Rattle.std.specs.Prelude.{◌≡◌, List, [], ◌∷◌, if◌then◌else◌}
use Rattle.cedar_identifiers.specs.declared.name_text.NameText as named
use Rattle.cedar_identifiers.specs.declared.raw_name.RawName.{RawName}
use Rattle.cedar_identifiers.specs.declared.unreserved_id.UnreservedId.{UnreservedId}
use Rattle.cedar_names.specs.Tables.{table_has}
use Rattle.cedar_names.specs.declared.extension_table.ExtensionTable.{ExtensionTable}
use Rattle.schema_json.specs.declared.fragment.Fragment.{Fragment}
use Rattle.schema_json_walk.specs.Parts.{Part, extension_type, open_record, action_attributes, external_not_bare}
use Rattle.schema_json_walk.specs.Walk.{of_fragment}
use Rattle.schema_resolve_definitions.specs.Declarations.{alone}
use Rattle.schema_build_errors.specs.declared.schema_error.SchemaError.{SchemaError}
use Rattle.schema_build_errors.specs.declared.schema_error.SchemaError.TheVariants as error
use Rattle.schema_build_errors.specs.declared.use_errors.UnsupportedFeature.{UnsupportedFeature}
use Rattle.schema_build_checks.specs.Refusing.{IsAboutFirst}
use Rattle.schema_build_errors.specs.declared.use_errors.UnsupportedFeature.TheVariants.{OpenRecordsAndEntities}
use Rattle.schema_build_errors.specs.declared.use_errors.UnsupportedFeature.TheVariants.{ActionAttributes}
use Rattle.schema_build_errors.specs.declared.use_errors.UnsupportedFeature.TheVariants.{ExternalNotBare}

-- an extension type that the table does not hold
abbrev pub unknown_extension : ExtensionTable → Part RawName → List UnreservedId
unknown_extension table (extension_type id) = if table_has table id.id.text then [] else id ∷ []
unknown_extension table _ = []

-- what the part has that no schema has, if anything
abbrev pub unsupported : Part RawName → List UnsupportedFeature
unsupported open_record = OpenRecordsAndEntities ∷ []
unsupported (action_attributes names) = ActionAttributes names ∷ []
unsupported external_not_bare = ExternalNotBare ∷ []
unsupported _ = []

-- the error names the extension type, without a place
abbrev pub NamesExtension : UnreservedId → SchemaError → Type 0
NamesExtension id (error.UnknownExtensionType e) = e.actual.name ≡ alone id.id
NamesExtension id _ = ⊥

-- the error names the feature
abbrev pub NamesFeature : UnsupportedFeature → SchemaError → Type 0
NamesFeature feature e = (given : _) × (e ≡ error.UnsupportedFeature given) × (given.0 ≡ feature)

module _ {G : named.Ghosts RawName} where
  -- an extension type is not in the table: the error names the first
  abbrev pub HasUnknownExtension : ExtensionTable → Fragment RawName G → SchemaError → Type 0
  HasUnknownExtension table f = IsAboutFirst NamesExtension (of_fragment (λ ns part. unknown_extension table part) f)

  -- the fragment has what no schema has: the error names the first
  abbrev pub HasUnsupported : Fragment RawName G → SchemaError → Type 0
  HasUnsupported f = IsAboutFirst NamesFeature (of_fragment (λ ns part. unsupported part) f)
