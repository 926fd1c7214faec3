-- Where a run that replaces files stopped.
use Rattle.std.specs.Prelude.{◌≡◌, ◌<◌, ℕ, List, ◌∷◌, ◌++◌, Option, length, map, slice_index_or, string_bytes}
use Rattle.cedar_files.specs.Files.{Contents}
use Rattle.cedar_schema_cli_format.specs.Formatting.{replacement_of}
use Rattle.cedar_schema_cli_format.specs.Plans.{Replacement}
use Rattle.cedar_schema_cli_format.specs.Replacing.{AreReplaced, IsSpared}
use Rattle.cedar_schema_cli_format.specs.declared.changes.Change.{Change}

-- the change at this index could not be made: the files before it were replaced, and it is as before
pub record IsStoppedAt (files : Option Contents) (changes : List Change) (after : Option Contents) (at : ℕ)
    : Type 0 where
  pub within : at < length changes
  pub change : Change
  pub here : change ≡ slice_index_or changes at change
  pub first : List Replacement
  pub rest : List Replacement
  pub parts : map replacement_of changes ≡ first ++ replacement_of change ∷ rest
  pub mid : Option Contents
  pub replaced : AreReplaced files first mid
  pub spared : IsSpared mid (string_bytes change.beside) after
