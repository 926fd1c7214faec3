-- Why entity types and actions make no schema.
use Rattle.std.specs.Prelude.{List}
use Rattle.cedar_identifiers.specs.declared.name.Name.{Name}
use Rattle.cedar_names.specs.declared.entity_uid.EntityUID.{EntityUID}
use Rattle.schema_build_errors.specs.declared.schema_error.SchemaError.{SchemaError}
use Rattle.schema_build_errors.specs.declared.schema_error.SchemaError.TheVariants.{InvalidActionType}
use Rattle.schema_build_errors.specs.declared.schema_error.SchemaError.TheVariants.{EnumEntityInHierarchy}
use Rattle.schema_build_types.specs.declared.action.ValidatorActionId.{ValidatorActionId}
use Rattle.schema_build_types.specs.declared.entity_type.ValidatorEntityType.{ValidatorEntityType}
use Rattle.schema_build_unfit.specs.Parts.{IsMisnamed, IsEnumBelow, NoneIs, IsFirstThat, IsLeastName}

-- why these entity types and actions make no schema: an action is misnamed, or else an enumerated entity type lists an
-- ancestor; the error names the first, and the least of its ancestors
abbrev pub PartsFault : List (Name × ValidatorEntityType) → List (EntityUID × ValidatorActionId) → SchemaError → Type 0
PartsFault entities actions (InvalidActionType e) =
    (action : ValidatorActionId) × IsFirstThat IsMisnamed actions (e.uid, action)
PartsFault entities actions (EnumEntityInHierarchy e) = NoneIs IsMisnamed actions
    × ((ty : ValidatorEntityType) × IsFirstThat (λ e. IsEnumBelow e.1) entities (e.enum_type, ty)
    × IsLeastName ty.ancestors e.parent_type)
PartsFault entities actions _ = ⊥
