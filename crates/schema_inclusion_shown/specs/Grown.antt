-- How a text grows, piece by piece, and by the rounds of a loop.
use Rattle.std.specs.Prelude.{◌≡◌, ℕ, List, ◌++◌}

-- behind the old text stand these characters, and nothing else
pub record Adds (old new more : List ℕ) : Type 0 where
  pub grown : new ≡ old ++ more

-- with what is left, the text is what it shall be
pub record Leaves (initial text left all : List ℕ) : Type 0 where
  pub meets : text ++ left ≡ initial ++ all
