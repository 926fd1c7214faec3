-- Where neither a fault of declarations nor an undefined type is told, each part of a type is known.
use Rattle.cedar_identifiers.specs.declared.name_text.NameText as named
use Rattle.cedar_identifiers.specs.declared.raw_name.RawName.{RawName}
use Rattle.cedar_names.specs.declared.extension_table.ExtensionTable.{ExtensionTable}
use Rattle.schema_json.specs.declared.fragment.Fragment.{Fragment}
use Rattle.schema_build_checks.specs.DeclaredTwice.{ActionTypeDeclared, TypeHides, ActionHides}
use Rattle.schema_build_checks.specs.Rows.{Never}
use Rattle.schema_build_checks.specs.WalkFaults.{HasUnknownExtension, HasUnsupported}
use Rattle.schema_build_scope.specs.Parts.{IsAllKnown}
use Rattle.schema_build_scope.specs.Rows.{OrElse}
use Rattle.schema_build_scope.specs.UndefinedRows.{HasUndefinedTypes}
use Rattle.schema_build_parts.specs.DeclarationFaults.{PartFault, DeclarationFault}
use Rattle.schema_build_parts.proofs.Rows.{never_first, never_behind}

module _ {G : named.Ghosts RawName} (f : Fragment RawName G) (table : ExtensionTable) where
  parts_pass : Never (DeclarationFault f table) → Never (PartFault f table)
  parts_pass none =
      never_behind (ActionHides f) (PartFault f table)
      (never_behind (TypeHides f) (OrElse (ActionHides f) (PartFault f table))
      (never_behind (ActionTypeDeclared f) (OrElse (TypeHides f) (OrElse (ActionHides f) (PartFault f table))) none))

  pub all_known : Never (DeclarationFault f table) → Never (HasUndefinedTypes f table) → IsAllKnown f table
  all_known none defined = record {
    extensions = never_first (HasUnknownExtension table f) (HasUnsupported f) (parts_pass none);
    features = never_behind (HasUnknownExtension table f) (HasUnsupported f) (parts_pass none);
    types = defined;
  }
