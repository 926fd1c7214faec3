-- Which rows do not hold where there is no build fault.
use Rattle.std.proofs.Common.{inl, inr}
use Rattle.cedar_identifiers.specs.declared.name_text.NameText as named
use Rattle.cedar_identifiers.specs.declared.raw_name.RawName.{RawName}
use Rattle.cedar_names.specs.declared.extension_table.ExtensionTable.{ExtensionTable}
use Rattle.schema_json.specs.declared.fragment.Fragment.{Fragment}
use Rattle.schema_resolve_definitions.specs.Defined.{defined}
use Rattle.schema_resolve_definitions.specs.Tests.{tests_of}
use Rattle.schema_build_errors.specs.declared.schema_error.SchemaError.{SchemaError}
use Rattle.schema_build_checks.specs.DeclaredTwice.{ActionTypeDeclared, TypeHides, ActionHides}
use Rattle.schema_build_checks.specs.Rows.{Never}
use Rattle.schema_build_checks.specs.WalkFaults.{HasUnknownExtension, HasUnsupported}
use Rattle.schema_build_scope.specs.Rows.{OrElse}
use Rattle.schema_build_scope.specs.UndefinedRows.{HasUndefinedTypes, HasUndefinedActions}
use Rattle.schema_build_hierarchy.specs.Declarations.{declared_entities, declared_actions}
use Rattle.schema_build_hierarchy.specs.Rows.{HasUndeclaredEntityTypes, HasActionCycle, HasExternalUnderEnum}
use Rattle.schema_build_parts.specs.BuildFaults.{BuildFault, ReferenceFault, MeaningFault, TypeFault, HierarchyFault}
use Rattle.schema_build_parts.specs.DeclarationFaults.{PartFault, DeclarationFault}

never_row : (row behind : SchemaError → Type 0) → Never (OrElse row behind) → Never row
never_row row behind never e h = never e (inl h)

never_behind : (row behind : SchemaError → Type 0) → Never (OrElse row behind) → Never behind
never_behind row behind never e h = never e (inr (never_row row behind never, h))

module _ {G : named.Ghosts RawName} (f : Fragment RawName G) (table : ExtensionTable) where
  -- the rows that speak of what a meaning holds
  pub record HasNoFault : Type 0 where
    pub action_type : Never (ActionTypeDeclared f)
    pub types : Never (TypeHides f)
    pub actions : Never (ActionHides f)
    pub features : Never (HasUnsupported f)
    pub undefined : Never (HasUndefinedTypes f table)
    pub undeclared : Never (HasUndeclaredEntityTypes (tests_of (defined f table)) f)
    pub cycle : Never (HasActionCycle (tests_of (defined f table)) (declared_actions f))
    pub enums : Never (HasExternalUnderEnum (tests_of (defined f table)) (declared_entities f))

  pub no_fault : Never (BuildFault f table) → HasNoFault
  no_fault never =
      let t = tests_of (defined f table) in
      let hierarchy = HierarchyFault t (declared_entities f) (declared_actions f) in
      let part = PartFault f table in
      let enum_row = HasExternalUnderEnum t (declared_entities f) in
      let behind = OrElse (ReferenceFault f table) (MeaningFault f table) in
      let first = never_row (DeclarationFault f table) behind never in
      let later = never_behind (DeclarationFault f table) behind never in
      let reference = never_row (ReferenceFault f table) (MeaningFault f table) later in
      let meaning = never_behind (ReferenceFault f table) (MeaningFault f table) later in
      let hides = never_behind (ActionTypeDeclared f) (OrElse (TypeHides f) (OrElse (ActionHides f) part)) first in
      let actions = never_behind (TypeHides f) (OrElse (ActionHides f) part) hides in
      let parts = never_behind (ActionHides f) part actions in
      let above = never_behind (TypeFault f table) hierarchy
      (never_behind (HasUndeclaredEntityTypes t f) (OrElse (TypeFault f table) hierarchy) meaning) in
      record {
        action_type = never_row (ActionTypeDeclared f) (OrElse (TypeHides f) (OrElse (ActionHides f) part)) first;
        types = never_row (TypeHides f) (OrElse (ActionHides f) part) hides;
        actions = never_row (ActionHides f) part actions;
        features = never_behind (HasUnknownExtension table f) (HasUnsupported f) parts;
        undefined = never_row (HasUndefinedTypes f table) (HasUndefinedActions f table) reference;
        undeclared = never_row (HasUndeclaredEntityTypes t f) (OrElse (TypeFault f table) hierarchy) meaning;
        cycle = never_row (HasActionCycle t (declared_actions f)) enum_row above;
        enums = never_behind (HasActionCycle t (declared_actions f)) enum_row above;
      }
