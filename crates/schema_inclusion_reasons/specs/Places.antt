-- Places in a value, and their order.
use Rattle.std.specs.Prelude.{◌≡◌, ◌⊎◌, ◌<◌, ℕ, List, [], ◌∷◌, ⊤}
use Rattle.schema_inclusion_values.specs.Values.{Text, below}

-- a step into a value: to the attribute of a name, or to the member of a set at a place, counted from 0
pub data Step : Type 0 where
  attr : Text → Step
  member : ℕ → Step

-- the steps to a place, the outermost first
abbrev pub Path : Type 0
Path = List Step

-- attributes by their names, and members as they stand
abbrev pub StepBefore : Step → Step → Type 0
StepBefore (attr m) (attr n) = below m n
StepBefore (member i) (member j) = i < j
StepBefore _ _ = ⊥

-- a place stands before all places in it, and two others stand as the first steps that differ
abbrev pub PathBefore : Path → Path → Type 0
PathBefore p [] = ⊥
PathBefore [] (t ∷ q) = ⊤
PathBefore (s ∷ p) (t ∷ q) = StepBefore s t ⊎ ((s ≡ t) × PathBefore p q)
