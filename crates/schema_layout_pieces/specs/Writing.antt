-- What the code has written at each step. It mirrors the code, and no promise of a public call rests on it.
use Rattle.std.specs.Prelude.{◌≡◌, ℕ, Bool, true, false, ◌&&◌, List, [], ◌++◌}
use Rattle.schema_syntax_grammar.specs.declared.token_kind.TokenKind.{TokenKind}
use Rattle.schema_layout_pieces.specs.declared.context.Feeds.{Feeds}
use Rattle.schema_layout_pieces.specs.declared.context.Last.{Last}
use Rattle.schema_layout_pieces.specs.declared.context.Last.TheVariants.{Token}
use Rattle.schema_layout_pieces.specs.Layout.{Before, beginning, gap_to_token, gap_to_comment, depth, depth_at}
use Rattle.schema_layout_pieces.specs.Pieces.{token, comment}
use Rattle.schema_layout_pieces.specs.Kept.{Spaced, HasSpaced, AreSpaced, may_be_spaced, spaced_text, kept_behind}

-- The new text is that of the pieces of the old one, with the empty lines that are kept or without any.
abbrev pub IsWritten : Bool → List ℕ → List ℕ → Type 0
IsWritten keeps old new = (ps : List Spaced) × AreSpaced old ps × (new ≡ kept_behind keeps beginning ps)

-- The whole is what is written and what is still to be laid out, of the pieces of the rest, behind this front.
abbrev pub IsWhole : Bool → List ℕ → List ℕ → Before → Bool → Feeds → List ℕ → Type 0
IsWhole keeps whole written f near s rest =
    (ps : List Spaced) × HasSpaced near s rest ps × (whole ≡ written ++ kept_behind keeps f ps)

-- a comment in the line of the last piece is beside it: that is a token
abbrev pub is_near : Last → Bool
is_near Token = true
is_near _ = false

-- the gap before a comment
abbrev pub comment_gap : Before → Bool → Bool → List ℕ
comment_gap f near spaced =
    spaced_text (gap_to_comment f.last near) (spaced && may_be_spaced f (comment near [])) (depth f.brackets)

-- the gap before a token of this kind
abbrev pub token_gap : Before → Bool → TokenKind → List ℕ
token_gap f spaced k =
    spaced_text (gap_to_token f.last f k) (spaced && may_be_spaced f (token (record { kind = k; text = [] })))
    (depth_at f k)
