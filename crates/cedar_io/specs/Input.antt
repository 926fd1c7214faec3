-- What is read of a source.
use Rattle.std.specs.Prelude.{◌≡◌, ◌≤◌, ℕ, List, Option, Some, None, length}
use Rattle.cedar_io.specs.Outside.{Took}

-- how many bytes an input may have
abbrev pub max_input : ℕ
max_input = 16777216

-- these bytes were left, where that is told
abbrev pub HadLeft : Option (List ℕ) → List ℕ → Type 0
HadLeft None bytes = Unit {0}
HadLeft (Some left) bytes = left ≡ bytes

-- at most so many bytes were taken
abbrev pub TookAtMost : ℕ → Option (List ℕ) → Option (List ℕ) → Type 0
TookAtMost most before after = (bytes : List ℕ) × (length bytes ≤ most) × Took before bytes after
