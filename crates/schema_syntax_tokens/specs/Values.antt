-- Bodies gone over piece by piece, with nothing written.
use Rattle.std.specs.Prelude.{◌≡◌, ℕ, List, ◌++◌}
use Rattle.schema_syntax_tokens.specs.Escapes.{IsPieceFor, Unescapes}

-- the body stands for something
abbrev pub HasValue : List ℕ → Type 0
HasValue body = (value : List ℕ) × Unescapes body value

-- the rest is a piece for c, and what follows it
abbrev pub Begins : List ℕ → ℕ → List ℕ → Type 0
Begins rest c after = (piece : List ℕ) × IsPieceFor piece c × (rest ≡ piece ++ after)

-- no piece begins the rest
abbrev pub NoPiece : List ℕ → Type 0
NoPiece rest = (c : ℕ) (piece after : List ℕ) → IsPieceFor piece c → rest ≡ piece ++ after → ⊥
