-- What is said of shapes and contexts that are no records.
use Rattle.std.specs.Prelude.{ℕ, List, ◌++◌, Option, codes}
use Rattle.cedar_data.specs.declared.loc.Loc.{Loc}
use Rattle.cedar_identifiers.specs.Names.{components_of, name_text}
use Rattle.cedar_names.specs.EntityTexts.{entity_text}
use Rattle.schema_build_errors.specs.declared.shape_errors.ContextOrShape.{ContextOrShape}
use Rattle.schema_build_errors.specs.declared.shape_errors.ContextOrShape.TheVariants.{ActionContext, EntityTypeShape}
use Rattle.schema_build_errors.specs.declared.shape_errors.ContextOrShapeNotRecordError.{ContextOrShapeNotRecordError}

-- the place of the action or of the entity type
abbrev pub subject_place : ContextOrShape → Option Loc
subject_place (ActionContext uid) = uid.loc
subject_place (EntityTypeShape name) = name.name.loc

-- what the context or the shape is called
abbrev pub shape_subject : ContextOrShape → List ℕ
shape_subject (ActionContext uid) = codes "Context for action " ++ entity_text uid
shape_subject (EntityTypeShape name) = codes "Shape for entity type " ++ name_text (components_of name.name)

-- what is said of a context or a shape
abbrev pub type_message : List ℕ → List ℕ
type_message subject = subject ++ codes " is declared with a type other than `Record`"

-- what is said of a context or a shape that is no record
abbrev pub no_record_text : ContextOrShapeNotRecordError → List ℕ
no_record_text e = type_message (shape_subject e.ctx_or_shape)

-- the advice where a context or a shape is no record
abbrev pub no_record_help : ContextOrShape → List ℕ
no_record_help (ActionContext uid) = codes "action contexts must have type `Record`"
no_record_help (EntityTypeShape name) = codes "entity type shapes must have type `Record`"
