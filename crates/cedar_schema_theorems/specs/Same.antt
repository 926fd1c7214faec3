-- Texts that mean the same.
use Rattle.std.specs.Prelude.{◌↔◌, ℕ, List}
use Rattle.cedar_names.specs.Meaning.{SchemaMeaning}
use Rattle.cedar_names.specs.declared.extension_table.ExtensionTable.{ExtensionTable}
use Rattle.cedar_schema_core.specs.Meanings.{TextMeaning}

-- what the one text means under the table, the other means: both are valid with one meaning, or neither is valid
abbrev pub MeanTheSame : List ℕ → List ℕ → ExtensionTable → Type 0
MeanTheSame text other table = (m : SchemaMeaning) → TextMeaning text table m ↔ TextMeaning other table m
