-- What warnings say, and where they point to.
use Rattle.std.specs.Prelude.{ℕ, List, ◌++◌, codes}
use Rattle.cedar_data.specs.declared.label.Label.{Label}
use Rattle.schema_syntax_errors.specs.FaultLabels.{unnamed_label}
use Rattle.schema_convert_errors.specs.declared.warnings.SchemaWarning.{SchemaWarning}
use Rattle.schema_convert_errors.specs.declared.warnings.SchemaWarning.TheVariants.{ShadowsBuiltin, ShadowsEntity}
use Rattle.schema_convert_errors.specs.declared.warnings.ShadowsBuiltinWarning.{ShadowsBuiltinWarning}
use Rattle.schema_convert_errors.specs.declared.warnings.ShadowsEntityWarning.{ShadowsEntityWarning}

-- what is said of a type that hides a builtin one
abbrev pub shadows_builtin_text : ShadowsBuiltinWarning → List ℕ
shadows_builtin_text w = (codes "The name `"
    ++ (w.name ++ codes "` shadows a builtin Cedar name. You'll have to refer to the builtin as `__cedar::"))
    ++ (w.name ++ codes "`.")

-- what is said of a common type that hides an entity type
abbrev pub shadows_entity_text : ShadowsEntityWarning → List ℕ
shadows_entity_text w = codes "The common type name " ++ (w.name ++ codes " shadows an entity name")

-- what a warning says
abbrev pub warning_text : SchemaWarning → List ℕ
warning_text (ShadowsBuiltin w) = shadows_builtin_text w
warning_text (ShadowsEntity w) = shadows_entity_text w

-- the place of the type that hides a builtin one
abbrev pub builtin_labels : ShadowsBuiltinWarning → List Label
builtin_labels w = unnamed_label w.loc

-- the places of the common type and of the entity type that it hides
abbrev pub entity_labels : ShadowsEntityWarning → List Label
entity_labels w = unnamed_label w.entity_loc ++ unnamed_label w.common_loc

-- the places that a warning points to, with what it says there
abbrev pub warning_labels : SchemaWarning → List Label
warning_labels (ShadowsBuiltin w) = builtin_labels w
warning_labels (ShadowsEntity w) = entity_labels w
