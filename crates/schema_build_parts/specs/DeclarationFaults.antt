-- Faults of declarations: the first row that holds.
use Rattle.cedar_identifiers.specs.declared.name_text.NameText as named
use Rattle.cedar_identifiers.specs.declared.raw_name.RawName.{RawName}
use Rattle.cedar_names.specs.declared.extension_table.ExtensionTable.{ExtensionTable}
use Rattle.schema_json.specs.declared.fragment.Fragment.{Fragment}
use Rattle.schema_build_errors.specs.declared.schema_error.SchemaError.{SchemaError}
use Rattle.schema_build_checks.specs.DeclaredTwice.{ActionTypeDeclared, TypeHides, ActionHides}
use Rattle.schema_build_checks.specs.WalkFaults.{HasUnknownExtension, HasUnsupported}
use Rattle.schema_build_scope.specs.Rows.{OrElse}

module _ {G : named.Ghosts RawName} (f : Fragment RawName G) (table : ExtensionTable) where
  -- what no schema has: an extension type that is not in the table, or a feature that is not supported
  abbrev pub PartFault : SchemaError → Type 0
  PartFault = OrElse (HasUnknownExtension table f) (HasUnsupported f)

  -- a type of actions is declared, a type hides another, or an action does; or the fragment has what no schema has
  abbrev pub DeclarationFault : SchemaError → Type 0
  DeclarationFault = OrElse (ActionTypeDeclared f) (OrElse (TypeHides f) (OrElse (ActionHides f) PartFault))
