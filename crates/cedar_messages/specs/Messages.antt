-- Bytes as messages, one behind another.
use Rattle.std.specs.Prelude.{◌≡◌, ◌<◌, ◌^◌, ℕ, List, [], ◌∷◌, ◌++◌, length}
use Rattle.std.specs.Int.{w32, to_be_bytes}

-- the bytes begin with this message behind its length in four bytes, the highest first, and this is the rest
pub record BeginsWith (bytes message rest : List ℕ) : Type 0 where
  pub fits : length message < 2 ^ 32
  pub bytes_are : bytes ≡ to_be_bytes w32 (length message) ++ (message ++ rest)

-- the bytes are these messages and nothing else
pub data AreMessages : List ℕ → List (List ℕ) → Type 0 where
  none : AreMessages [] []
  next : (bytes message rest : List ℕ) (others : List (List ℕ)) → BeginsWith bytes message rest
      → AreMessages rest others → AreMessages bytes (message ∷ others)
