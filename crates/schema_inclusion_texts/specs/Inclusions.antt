-- What is answered on two schema texts. Texts are their bytes.
use Rattle.std.specs.Prelude.{◌≡◌, ◌≢◌, ℕ, List, Option, Some, None}
use Rattle.std.specs.Option.{option_map}
use Rattle.cedar_names.specs.Meaning.{SchemaMeaning}
use Rattle.cedar_names.specs.declared.extension_table.ExtensionTable.{ExtensionTable}
use Rattle.schema_build.specs.Texts.{IsTextError}
use Rattle.schema_build.specs.declared.text_errors.CedarSchemaError.TheVariants as refused
use Rattle.laws_inclusion.specs.TextMeans.{TextMeans}
use Rattle.schema_inclusion_values.specs.Admits.{SchemaValue, IsInclusion}
use Rattle.schema_inclusion_values.specs.Lost.{lost}
use Rattle.schema_inclusion_values.specs.Seen.{schema_value}
use Rattle.schema_inclusion_check.specs.Subjects.{subject}
use Rattle.schema_inclusion_texts.specs.declared.check.Inclusion.{Inclusion}
use Rattle.schema_inclusion_texts.specs.declared.check.Inclusion.TheVariants.{Yes, No}
use Rattle.schema_inclusion_texts.specs.declared.errors.InclusionError.{InclusionError}
use Rattle.schema_inclusion_texts.specs.declared.errors.InclusionError.TheVariants.{Old, New, Memory}

-- the value that is answered, if one is
abbrev pub value_found : Inclusion → Option SchemaValue
value_found Yes = None
value_found (No value) = Some (schema_value value)

-- Both texts mean something. Nothing is found, and the new meaning admits each value that the old one admits; or this
-- is found, the old meaning admits it, the new one does not, and nothing before it is so.
pub record IsInclusionAnswer (old_text new_text : List ℕ) (table : ExtensionTable) (found : Option SchemaValue)
    : Type 0 where
  pub old : SchemaMeaning
  pub new : SchemaMeaning
  pub old_means : TextMeans old_text table old
  pub new_means : TextMeans new_text table new
  pub inclusion : IsInclusion old new found
  -- which of the values about one entity type it is, so far as its id
  pub chosen : option_map subject found ≡ option_map subject (lost old new)

-- the text means something under the table
abbrev pub HasMeaning : List ℕ → ExtensionTable → Type 0
HasMeaning text table = (m : SchemaMeaning) × TextMeans text table m

-- why there is no answer: the old text is no schema; or it is one and the new text is none; or memory is out
abbrev pub IsInclusionRefusal : List ℕ → List ℕ → ExtensionTable → InclusionError → Type 0
IsInclusionRefusal old_text new_text table (Old e) = (e ≢ refused.Memory) × IsTextError old_text table e
IsInclusionRefusal old_text new_text table (New e) = (e ≢ refused.Memory) × HasMeaning old_text table
    × IsTextError new_text table e
IsInclusionRefusal old_text new_text table Memory = Unit {0}
