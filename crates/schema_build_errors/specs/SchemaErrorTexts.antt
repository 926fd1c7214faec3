-- What errors of building say, advise and point to.
use Rattle.std.specs.Prelude.{ℕ, List, [], Option, Some, None, codes}
use Rattle.cedar_data.specs.declared.label.Label.{Label}
use Rattle.schema_resolve_errors.specs.ErrorTexts.{label_at, type_texts, action_texts, unresolved_text, undeclared_text}
use Rattle.schema_resolve_errors.specs.ErrorTexts.{undeclared_actions_help, type_labels, action_labels}
use Rattle.schema_resolve_errors.specs.Gathered.{if_there}
use Rattle.schema_json_errors.specs.JsonTexts.{json_fault_text, json_error_help}
use Rattle.schema_build_errors.specs.DeclaredTexts.{action_type_declared_text, type_shadowing_text, type_shadowing_help}
use Rattle.schema_build_errors.specs.DeclaredTexts.{action_shadowing_text, action_shadowing_help}
use Rattle.schema_build_errors.specs.UseTexts.{unknown_extension_text, unsupported_text, undeclared_types_text}
use Rattle.schema_build_errors.specs.UseTexts.{undeclared_types_help, undeclared_labels}
use Rattle.schema_build_errors.specs.CycleTexts.{common_cycle_text, action_cycle_text}
use Rattle.schema_build_errors.specs.ShapeTexts.{subject_place, no_record_text, no_record_help}
use Rattle.schema_build_errors.specs.HierarchyTexts.{enum_ancestor_text, enum_ancestor_help, action_type_text}
use Rattle.schema_build_errors.specs.HierarchyTexts.{enum_parent_text, enum_parent_help}
use Rattle.schema_build_errors.specs.declared.schema_error.SchemaError.{SchemaError}
use Rattle.schema_build_errors.specs.declared.schema_error.SchemaError.TheVariants.{JsonDeserialization}
use Rattle.schema_build_errors.specs.declared.schema_error.SchemaError.TheVariants.{ActionEntityTypeDeclared}
use Rattle.schema_build_errors.specs.declared.schema_error.SchemaError.TheVariants.{TypeShadowing, ActionShadowing}
use Rattle.schema_build_errors.specs.declared.schema_error.SchemaError.TheVariants.{UnknownExtensionType}
use Rattle.schema_build_errors.specs.declared.schema_error.SchemaError.TheVariants.{UnsupportedFeature, TypeNotDefined}
use Rattle.schema_build_errors.specs.declared.schema_error.SchemaError.TheVariants.{ActionNotDefined}
use Rattle.schema_build_errors.specs.declared.schema_error.SchemaError.TheVariants.{UndeclaredEntityTypes}
use Rattle.schema_build_errors.specs.declared.schema_error.SchemaError.TheVariants.{CycleInCommonTypeReferences}
use Rattle.schema_build_errors.specs.declared.schema_error.SchemaError.TheVariants.{ContextOrShapeNotRecord}
use Rattle.schema_build_errors.specs.declared.schema_error.SchemaError.TheVariants.{CycleInActionHierarchy}
use Rattle.schema_build_errors.specs.declared.schema_error.SchemaError.TheVariants.{ExternalWithEnumAncestor}
use Rattle.schema_build_errors.specs.declared.schema_error.SchemaError.TheVariants.{InvalidActionType}
use Rattle.schema_build_errors.specs.declared.schema_error.SchemaError.TheVariants.{EnumEntityInHierarchy, Memory}

-- what an error says
abbrev pub schema_error_text : SchemaError → List ℕ
schema_error_text (JsonDeserialization e) = json_fault_text e.fault
schema_error_text (ActionEntityTypeDeclared e) = action_type_declared_text e
schema_error_text (TypeShadowing e) = type_shadowing_text e
schema_error_text (ActionShadowing e) = action_shadowing_text e
schema_error_text (UnknownExtensionType e) = unknown_extension_text e
schema_error_text (UnsupportedFeature e) = unsupported_text e
schema_error_text (TypeNotDefined e) = unresolved_text (type_texts e.undefined_types)
schema_error_text (ActionNotDefined e) = undeclared_text (action_texts e.0)
schema_error_text (UndeclaredEntityTypes e) = undeclared_types_text e
schema_error_text (CycleInCommonTypeReferences e) = common_cycle_text e
schema_error_text (ContextOrShapeNotRecord e) = no_record_text e
schema_error_text (CycleInActionHierarchy e) = action_cycle_text e
schema_error_text (ExternalWithEnumAncestor e) = enum_ancestor_text e
schema_error_text (InvalidActionType e) = action_type_text e
schema_error_text (EnumEntityInHierarchy e) = enum_parent_text e
schema_error_text Memory = codes "out of memory"

-- the advice of an error, where it has any
abbrev pub schema_error_help : SchemaError → Option (List ℕ)
schema_error_help (JsonDeserialization e) = json_error_help e
schema_error_help (ActionEntityTypeDeclared e) = None
schema_error_help (TypeShadowing e) = Some (type_shadowing_help e)
schema_error_help (ActionShadowing e) = Some (action_shadowing_help e)
schema_error_help (UnknownExtensionType e) = None
schema_error_help (UnsupportedFeature e) = None
schema_error_help (TypeNotDefined e) = None
schema_error_help (ActionNotDefined e) = Some undeclared_actions_help
schema_error_help (UndeclaredEntityTypes e) = Some undeclared_types_help
schema_error_help (CycleInCommonTypeReferences e) = None
schema_error_help (ContextOrShapeNotRecord e) = Some (no_record_help e.ctx_or_shape)
schema_error_help (CycleInActionHierarchy e) = None
schema_error_help (ExternalWithEnumAncestor e) = Some enum_ancestor_help
schema_error_help (InvalidActionType e) = None
schema_error_help (EnumEntityInHierarchy e) = Some enum_parent_help
schema_error_help Memory = None

-- the places that an error points to, in order
abbrev pub schema_error_labels : SchemaError → List Label
schema_error_labels (JsonDeserialization e) = []
schema_error_labels (ActionEntityTypeDeclared e) = if_there label_at e.loc
schema_error_labels (TypeShadowing e) = if_there label_at e.shadowing_def.loc
schema_error_labels (ActionShadowing e) = if_there label_at e.shadowing_def.loc
schema_error_labels (UnknownExtensionType e) = []
schema_error_labels (UnsupportedFeature e) = []
schema_error_labels (TypeNotDefined e) = type_labels e.undefined_types
schema_error_labels (ActionNotDefined e) = action_labels e.0
schema_error_labels (UndeclaredEntityTypes e) = undeclared_labels e.types
schema_error_labels (CycleInCommonTypeReferences e) = if_there label_at e.ty.loc
schema_error_labels (ContextOrShapeNotRecord e) = if_there label_at (subject_place e.ctx_or_shape)
schema_error_labels (CycleInActionHierarchy e) = if_there label_at e.uid.loc
schema_error_labels (ExternalWithEnumAncestor e) = if_there label_at e.external_type.name.loc
schema_error_labels (InvalidActionType e) = []
schema_error_labels (EnumEntityInHierarchy e) = []
schema_error_labels Memory = []
