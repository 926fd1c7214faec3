-- A schema that is built of a text, and what is first lost between two. Texts are their bytes.
use Rattle.std.specs.Prelude.{ℕ, List, Option}
use Rattle.cedar_names.specs.declared.extension_table.ExtensionTable.{ExtensionTable}
use Rattle.schema_convert_errors.specs.declared.warnings.SchemaWarning.{SchemaWarning}
use Rattle.schema_build.specs.Schemas.{SchemaLists}
use Rattle.schema_build.specs.Texts.{IsSchemaOfText}
use Rattle.schema_inclusion_values.specs.Admits.{SchemaValue}
use Rattle.schema_inclusion_values.specs.Lost.{lost}
use Rattle.schema_inclusion_check.specs.Raw.{raw_meaning}

-- the text is translated to a fragment without a fault, and the schema stands for its meaning
abbrev pub BuildsText : List ℕ → ExtensionTable → SchemaLists → Type 0
BuildsText text table s = (warnings : List SchemaWarning) × IsSchemaOfText text table s warnings

-- what is first lost between two built schemas, with their lists as they stand
abbrev pub lost_between : SchemaLists → SchemaLists → Option SchemaValue
lost_between old new = lost (raw_meaning old.entity_types old.actions) (raw_meaning new.entity_types new.actions)
