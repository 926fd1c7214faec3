-- The fault that keeps a fragment from being a schema: the first row that holds.
use Rattle.std.specs.Prelude.{List}
use Rattle.cedar_identifiers.specs.declared.name_text.NameText as named
use Rattle.cedar_identifiers.specs.declared.raw_name.RawName.{RawName}
use Rattle.cedar_names.specs.declared.extension_table.ExtensionTable.{ExtensionTable}
use Rattle.schema_json.specs.declared.action_type.ActionType.{ActionType}
use Rattle.schema_json.specs.declared.fragment.Fragment.{Fragment}
use Rattle.schema_resolve_definitions.specs.Defined.{defined}
use Rattle.schema_resolve_definitions.specs.Tests.{Tests, tests_of}
use Rattle.schema_build_errors.specs.declared.schema_error.SchemaError.{SchemaError}
use Rattle.schema_build_checks.specs.DeclaredAt.{ActionAt}
use Rattle.schema_build_scope.specs.Rows.{OrElse}
use Rattle.schema_build_scope.specs.UndefinedRows.{HasUndefinedTypes, HasUndefinedActions}
use Rattle.schema_build_scope.specs.CycleRow.{HasCommonCycle}
use Rattle.schema_build_hierarchy.specs.Declarations.{Declared, DeclaredEntity, declared_entities, declared_actions}
use Rattle.schema_build_hierarchy.specs.Rows.{HasUndeclaredEntityTypes, HasActionCycle, HasExternalUnderEnum}
use Rattle.schema_build_items.specs.NoRecord.{HasNoRecord}
use Rattle.schema_build_parts.specs.DeclarationFaults.{DeclarationFault}

module _ {G : named.Ghosts RawName} where
  -- an action is its own ancestor, or an external entity type has an enumerated one
  abbrev pub HierarchyFault : Tests → List DeclaredEntity → List (Declared ActionAt (ActionType RawName G))
      → SchemaError → Type 0
  HierarchyFault t entities actions = OrElse (HasActionCycle t actions) (HasExternalUnderEnum t entities)

module _ {G : named.Ghosts RawName} (f : Fragment RawName G) (table : ExtensionTable) where
  -- references mean nothing: those to types, or else those to actions
  abbrev pub ReferenceFault : SchemaError → Type 0
  ReferenceFault = OrElse (HasUndefinedTypes f table) (HasUndefinedActions f table)

  -- a common type reaches itself, or a shape or a context is no record
  abbrev pub TypeFault : SchemaError → Type 0
  TypeFault = OrElse (HasCommonCycle f table) (HasNoRecord f table)

  -- where each reference means something: entity types are wanted and not declared, or a type has a fault, or a
  -- hierarchy has one
  abbrev pub MeaningFault : SchemaError → Type 0
  MeaningFault = OrElse (HasUndeclaredEntityTypes (tests_of (defined f table)) f)
      (OrElse TypeFault (HierarchyFault (tests_of (defined f table)) (declared_entities f) (declared_actions f)))

  -- the first that holds: a fault of declarations, of references, or of what these mean
  abbrev pub BuildFault : SchemaError → Type 0
  BuildFault = OrElse (DeclarationFault f table) (OrElse ReferenceFault MeaningFault)
