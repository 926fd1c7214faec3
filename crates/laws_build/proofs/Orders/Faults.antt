-- Fragments that declare the same have a fault together.
use Rattle.std.proofs.Common.{sym}
use Rattle.cedar_names.specs.declared.extension_table.ExtensionTable.{ExtensionTable}
use Rattle.schema_resolve_definitions.specs.Defined.{defined}
use Rattle.schema_resolve_definitions.specs.Tests.{tests_of}
use Rattle.schema_build_errors.specs.declared.schema_error.SchemaError.{SchemaError}
use Rattle.schema_build_checks.specs.DeclaredTwice.{ActionTypeDeclared, TypeHides, ActionHides}
use Rattle.schema_build_checks.specs.Rows.{Never}
use Rattle.schema_build_checks.specs.WalkFaults.{HasUnknownExtension, HasUnsupported}
use Rattle.schema_build_scope.specs.CycleRow.{HasCommonCycle}
use Rattle.schema_build_scope.specs.Rows.{OrElse}
use Rattle.schema_build_scope.specs.UndefinedRows.{HasUndefinedTypes, HasUndefinedActions}
use Rattle.schema_build_hierarchy.specs.Declarations.{declared_entities, declared_actions}
use Rattle.schema_build_hierarchy.specs.Rows.{HasUndeclaredEntityTypes, HasActionCycle, HasExternalUnderEnum}
use Rattle.schema_build_items.specs.NoRecord.{HasNoRecordShape, HasNoRecordContext, HasNoRecord}
use Rattle.schema_build_parts.specs.BuildFaults.{BuildFault, ReferenceFault, MeaningFault, TypeFault}
use Rattle.schema_build_parts.specs.DeclarationFaults.{PartFault, DeclarationFault}
use Rattle.laws_build.specs.Orders.Alike.{DeclareTheSame}
use Rattle.laws_build.proofs.Orders.DeclarationRows.{action_type_follows, type_hides_follows, action_hides_follows}
use Rattle.laws_build.proofs.Orders.DeclarationRows.{extension_follows, unsupported_follows}
use Rattle.laws_build.proofs.Orders.Declaring.{Frag}
use Rattle.laws_build.proofs.Orders.HierarchyRows.{action_cycle_follows, enum_follows}
use Rattle.laws_build.proofs.Orders.ReferenceRows.{types_follow, actions_follow, uses_follow}
use Rattle.laws_build.proofs.Orders.Rows.{Follows, HoldTogether, or_together, never_too}
use Rattle.laws_build.proofs.Orders.TypeRows.{cycle_follows, no_shape_follows, no_context_follows}

module _ (f g : Frag) (table : ExtensionTable) (same : DeclareTheSame f g) where
  -- what follows for all fragments that declare the same holds together
  together : (row : Frag → SchemaError → Type 0) → ((x y : Frag) → DeclareTheSame x y → Follows (row x) (row y))
      → HoldTogether (row f) (row g)
  together row follows = record { there = follows f g same; back = follows g f (sym same) }

  parts : HoldTogether (PartFault f table) (PartFault g table)
  parts = or_together (HasUnknownExtension table f) (HasUnknownExtension table g) (HasUnsupported f) (HasUnsupported g)
      (together (λ x. HasUnknownExtension table x) (λ x y e. extension_follows x y table e))
      (together HasUnsupported unsupported_follows)

  actions : HoldTogether (OrElse (ActionHides f) (PartFault f table)) (OrElse (ActionHides g) (PartFault g table))
  actions = or_together (ActionHides f) (ActionHides g) (PartFault f table) (PartFault g table)
      (together ActionHides action_hides_follows) parts

  types : HoldTogether (OrElse (TypeHides f) (OrElse (ActionHides f) (PartFault f table)))
      (OrElse (TypeHides g) (OrElse (ActionHides g) (PartFault g table)))
  types = or_together (TypeHides f) (TypeHides g) (OrElse (ActionHides f) (PartFault f table))
      (OrElse (ActionHides g) (PartFault g table)) (together TypeHides type_hides_follows) actions

  declarations : HoldTogether (DeclarationFault f table) (DeclarationFault g table)
  declarations = or_together (ActionTypeDeclared f) (ActionTypeDeclared g)
      (OrElse (TypeHides f) (OrElse (ActionHides f) (PartFault f table)))
      (OrElse (TypeHides g) (OrElse (ActionHides g) (PartFault g table)))
      (together ActionTypeDeclared action_type_follows) types

  references : HoldTogether (ReferenceFault f table) (ReferenceFault g table)
  references = or_together (HasUndefinedTypes f table) (HasUndefinedTypes g table) (HasUndefinedActions f table)
      (HasUndefinedActions g table)
      (together (λ x. HasUndefinedTypes x table) (λ x y e. types_follow x y table e))
      (together (λ x. HasUndefinedActions x table) (λ x y e. actions_follow x y table e))

  records : HoldTogether (HasNoRecord f table) (HasNoRecord g table)
  records = or_together (HasNoRecordShape f table) (HasNoRecordShape g table) (HasNoRecordContext f table)
      (HasNoRecordContext g table)
      (together (λ x. HasNoRecordShape x table) (λ x y e. no_shape_follows x y table e))
      (together (λ x. HasNoRecordContext x table) (λ x y e. no_context_follows x y table e))

  type_faults : HoldTogether (TypeFault f table) (TypeFault g table)
  type_faults = or_together (HasCommonCycle f table) (HasCommonCycle g table) (HasNoRecord f table)
      (HasNoRecord g table) (together (λ x. HasCommonCycle x table) (λ x y e. cycle_follows x y table e)) records

  abbrev Cycle : Frag → SchemaError → Type 0
  Cycle x = HasActionCycle (tests_of (defined x table)) (declared_actions x)

  abbrev UnderEnum : Frag → SchemaError → Type 0
  UnderEnum x = HasExternalUnderEnum (tests_of (defined x table)) (declared_entities x)

  abbrev Undeclared : Frag → SchemaError → Type 0
  Undeclared x = HasUndeclaredEntityTypes (tests_of (defined x table)) x

  abbrev Hierarchy : Frag → SchemaError → Type 0
  Hierarchy x = OrElse (Cycle x) (UnderEnum x)

  hierarchies : HoldTogether (Hierarchy f) (Hierarchy g)
  hierarchies = or_together (Cycle f) (Cycle g) (UnderEnum f) (UnderEnum g)
      (together Cycle (action_cycle_follows table)) (together UnderEnum (enum_follows table))

  meanings : HoldTogether (MeaningFault f table) (MeaningFault g table)
  meanings = or_together (Undeclared f) (Undeclared g) (OrElse (TypeFault f table) (Hierarchy f))
      (OrElse (TypeFault g table) (Hierarchy g))
      (together Undeclared (λ x y e. uses_follow x y table e))
      (or_together (TypeFault f table) (TypeFault g table) (Hierarchy f) (Hierarchy g) type_faults hierarchies)

  faults : HoldTogether (BuildFault f table) (BuildFault g table)
  faults = or_together (DeclarationFault f table) (DeclarationFault g table)
      (OrElse (ReferenceFault f table) (MeaningFault f table)) (OrElse (ReferenceFault g table) (MeaningFault g table))
      declarations
      (or_together (ReferenceFault f table) (ReferenceFault g table) (MeaningFault f table) (MeaningFault g table)
      references meanings)

  pub faultless_too : Never (BuildFault f table) → Never (BuildFault g table)
  faultless_too = never_too (BuildFault f table) (BuildFault g table) faults.back
