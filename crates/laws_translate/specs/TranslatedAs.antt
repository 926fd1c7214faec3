-- A text whose fragment says what is written.
use Rattle.std.specs.Prelude.{◌≡◌, ℕ, List, []}
use Rattle.schema_convert_faults.specs.Faults.{translation_faults}
use Rattle.schema_convert_plain.specs.Translation.{translated}
use Rattle.laws_written.specs.ReadsBack.{ReadsBack}
use Rattle.laws_written.specs.Written.{WrittenItem}
use Rattle.laws_translate.specs.FragmentsSay.{FragmentSays}

-- The text reads back as what is written, its tree has no fault, and the tree's fragment says it.
pub record IsTranslatedAs (text : List ℕ) (written : List WrittenItem) : Type 0 where
  pub reads : ReadsBack text written
  pub lawful : translation_faults reads.tree ≡ []
  pub says : FragmentSays (translated reads.tree) written
