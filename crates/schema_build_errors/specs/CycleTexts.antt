-- What is said of cycles.
use Rattle.std.specs.Prelude.{ℕ, List, ◌++◌, codes}
use Rattle.cedar_identifiers.specs.Names.{components_of, name_text}
use Rattle.cedar_names.specs.EntityTexts.{entity_text}
use Rattle.schema_build_errors.specs.declared.cycle_errors.CycleInCommonTypeReferencesError.{CycleInCommonTypeReferencesError}
use Rattle.schema_build_errors.specs.declared.cycle_errors.CycleInActionHierarchyError.{CycleInActionHierarchyError}

-- what is said of a cycle of common types, of which one is named
abbrev pub common_cycle_text : CycleInCommonTypeReferencesError → List ℕ
common_cycle_text e = codes "cycle in common type references containing `"
    ++ (name_text (components_of e.ty) ++ codes "`")

-- what is said of a cycle of actions, of which one is named
abbrev pub action_cycle_text : CycleInActionHierarchyError → List ℕ
action_cycle_text e = codes "cycle in action hierarchy containing `" ++ (entity_text e.uid ++ codes "`")
