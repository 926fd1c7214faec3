-- What it means that a text is another one laid out.
use Rattle.std.specs.Prelude.{◌≡◌, ℕ, List}
use Rattle.schema_layout_pieces.specs.Pieces.{SourcePiece, IsPieces}
use Rattle.schema_layout_pieces.specs.Layout.{laid}
use Rattle.schema_layout_pieces.specs.Kept.{Spaced, AreSpaced, laid_kept}

-- The new text is that of the pieces of the old one.
abbrev pub IsLaidOut : List ℕ → List ℕ → Type 0
IsLaidOut old new = (ps : List SourcePiece) × IsPieces old ps × (new ≡ laid ps)

-- The new text is that of the pieces of the old one, with the empty lines that are kept.
abbrev pub IsLaidOutKept : List ℕ → List ℕ → Type 0
IsLaidOutKept old new = (ps : List Spaced) × AreSpaced old ps × (new ≡ laid_kept ps)

-- the two texts have the same pieces: the same kinds and texts of tokens, and the same comments, in the same order
abbrev pub HaveSamePieces : List ℕ → List ℕ → Type 0
HaveSamePieces old new = (ps : List SourcePiece) × IsPieces old ps × IsPieces new ps
