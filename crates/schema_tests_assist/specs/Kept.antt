-- What an editor keeps of a text.
use Rattle.std.specs.Prelude.{◌≡◌, ◌⊎◌, ℕ, List}
use Rattle.schema_convert.specs.Translated.{IsTranslationOfText}
use Rattle.schema_convert_errors.specs.declared.warnings.SchemaWarning.{SchemaWarning}
use Rattle.schema_tests_assist.specs.declared.editor.Editor.{Editor}

-- the table stays, and so does what is known, unless the text has no fault: then it is what that declares
pub record IsKept (text : List ℕ) (before after : Editor) : Type 0 where
  pub table : after.table ≡ before.table
  pub known : (after.known ≡ before.known)
      ⊎ ((warnings : List SchemaWarning) × IsTranslationOfText text before.table after.known warnings)
