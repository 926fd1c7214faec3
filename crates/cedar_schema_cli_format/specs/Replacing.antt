-- How files are replaced one after another. Paths and contents are their bytes.
use Rattle.std.specs.Prelude.{◌≡◌, ◌≢◌, ℕ, List, [], ◌∷◌, ◌++◌, Option, Some, None, ⊤}
use Rattle.cedar_files.specs.Files.{Contents, Keeps}
use Rattle.cedar_schema_cli_format.specs.Plans.{Replacement}

-- where files say what they hold: this one holds these bytes after, and all others but the one beside it are as before
abbrev pub IsReplaced : Option Contents → List ℕ → List ℕ → List ℕ → Option Contents → Type 0
IsReplaced (Some old) path beside bytes (Some new) = (new path ≡ Some bytes)
    × ((other : List ℕ) → other ≢ path → other ≢ beside → new other ≡ old other)
IsReplaced None path beside bytes None = ⊤
IsReplaced (Some old) path beside bytes None = ⊥
IsReplaced None path beside bytes (Some new) = ⊥

-- where files say what they hold: all but the one with this path are as before
abbrev pub IsSpared : Option Contents → List ℕ → Option Contents → Type 0
IsSpared (Some old) beside (Some new) = (other : List ℕ) → other ≢ beside → new other ≡ old other
IsSpared None beside None = ⊤
IsSpared (Some old) beside None = ⊥
IsSpared None beside (Some new) = ⊥

-- the files are replaced one after another, each as a whole
pub data AreReplaced (files : Option Contents) : List Replacement → Option Contents → Type 0 where
  none : {after : Option Contents} → Keeps files after → AreReplaced files [] after
  then : {first : List Replacement} {mid : Option Contents} → AreReplaced files first mid → (file : Replacement)
      {after : Option Contents} → IsReplaced mid file.path file.beside file.bytes after
      → AreReplaced files (first ++ file ∷ []) after
