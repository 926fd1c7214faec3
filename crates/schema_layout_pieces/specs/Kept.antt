-- The layout that keeps empty lines: one, where a piece on a line of its own had one or more before it.
use Rattle.std.specs.Prelude.{◌≡◌, ℕ, Bool, true, false, not, ◌&&◌, ◌==◌, List, [], ◌∷◌, ◌++◌, length, map}
use Rattle.std.specs.Prelude.{if◌then◌else◌}
use Rattle.std.specs.List.{All}
use Rattle.std.specs.Char.{is_whitespace, encode_utf8}
use Rattle.schema_syntax_grammar.specs.declared.token_kind.TokenKind.{TokenKind}
use Rattle.schema_syntax_grammar.specs.declared.token_kind.TokenKind.TheVariants.{LBrace, RBrace}
use Rattle.schema_syntax_grammar.specs.Grammar.{same_kind}
use Rattle.schema_syntax_tokens.specs.Laid.{Lexeme}
use Rattle.schema_syntax_tokens.specs.Scans.{IsInLine, EndsLine, IsLongest}
use Rattle.schema_layout_pieces.specs.declared.context.Feeds.{Feeds}
use Rattle.schema_layout_pieces.specs.declared.context.Feeds.TheVariants.{NoFeed, OneFeed, MoreFeeds}
use Rattle.schema_layout_pieces.specs.declared.context.Gap.{Gap}
use Rattle.schema_layout_pieces.specs.declared.context.Gap.TheVariants.{NoGap, Space, NewLine}
use Rattle.schema_layout_pieces.specs.declared.context.Last.{Last}
use Rattle.schema_layout_pieces.specs.declared.context.Last.TheVariants.{Token}
use Rattle.schema_layout_pieces.specs.Pieces.{SourcePiece, token, comment, spelling, ends_line}
use Rattle.schema_layout_pieces.specs.Layout.{Before, beginning, past, gap, depth_of, gap_text, last_end}

-- one line feed more
abbrev pub feed : Feeds → Feeds
feed NoFeed = OneFeed
feed _ = MoreFeeds

-- the line feeds behind this character
abbrev pub fed : Feeds → ℕ → Feeds
fed s c = if c == 10 then feed s else s

-- Two line feeds or more make an empty line.
abbrev pub has_empty_line : Feeds → Bool
has_empty_line MoreFeeds = true
has_empty_line _ = false

-- a piece, and whether an empty line stands before it
pub record Spaced : Type 0 where
  pub piece : SourcePiece
  pub spaced : Bool

-- the pieces alone
abbrev pub pieces_in : List Spaced → List SourcePiece
pieces_in ps = map (λ s. s.piece) ps

-- the piece behind so many line feeds
abbrev pub spaced_by : Feeds → SourcePiece → Spaced
spaced_by s p = record { piece = p; spaced = has_empty_line s }

-- As `HasPieces`, with the line feeds that stand between the last piece and the rest.
pub data HasSpaced : Bool → Feeds → List ℕ → List Spaced → Type 0 where
  none : {near : Bool} {s : Feeds} → HasSpaced near s [] []
  blank : {near : Bool} {s : Feeds} {rest : List ℕ} {ps : List Spaced} (c : ℕ) → is_whitespace c ≡ true
      → HasSpaced (near && not (ends_line c)) (fed s c) rest ps → HasSpaced near s (encode_utf8 c ++ rest) ps
  note : {near : Bool} {s : Feeds} {rest : List ℕ} {ps : List Spaced} (line : List ℕ) → All IsInLine line
      → EndsLine rest → HasSpaced false NoFeed rest ps
      → HasSpaced near s (47 ∷ 47 ∷ (line ++ rest)) (spaced_by s (comment near line) ∷ ps)
  lexeme : {near : Bool} {s : Feeds} {rest : List ℕ} {ps : List Spaced} (x : Lexeme)
      → IsLongest (x.text ++ rest) x.kind (length x.text) → HasSpaced true NoFeed rest ps
      → HasSpaced near s (x.text ++ rest) (spaced_by s (token x) ∷ ps)

-- the text has these pieces and empty lines
abbrev pub AreSpaced : List ℕ → List Spaced → Type 0
AreSpaced text ps = HasSpaced false NoFeed text ps

-- a `{` stands right in front
abbrev pub is_at_brace : Last → TokenKind → Bool
is_at_brace Token k = same_kind k LBrace
is_at_brace _ k = false

-- the piece is `}`
abbrev pub closes_braces : SourcePiece → Bool
closes_braces (token x) = same_kind x.kind RBrace
closes_braces (comment beside line) = false

-- No empty line is kept right behind `{`, nor right before `}`.
abbrev pub may_be_spaced : Before → SourcePiece → Bool
may_be_spaced f p = not (is_at_brace f.last f.kind) && not (closes_braces p)

-- whether the empty line before the piece is kept, where empty lines are kept at all
abbrev pub stays : Bool → Before → Spaced → Bool
stays keeps f s = (keeps && s.spaced) && may_be_spaced f s.piece

-- an empty line stands at a new line only
abbrev pub is_spaced : Gap → Bool → Bool
is_spaced NewLine spaced = spaced
is_spaced _ spaced = false

-- the gap, with an LF more where an empty line stands
abbrev pub spaced_text : Gap → Bool → ℕ → List ℕ
spaced_text NoGap spaced n = gap_text NoGap n
spaced_text Space spaced n = gap_text Space n
spaced_text NewLine false n = gap_text NewLine n
spaced_text NewLine true n = 10 ∷ gap_text NewLine n

-- the pieces behind this front as they are laid out, with empty lines or without any
abbrev pub kept_behind : Bool → Before → List Spaced → List ℕ
kept_behind keeps f [] = last_end f.last
kept_behind keeps f (s ∷ ps) =
    spaced_text (gap f s.piece) (stays keeps f s) (depth_of f s.piece)
    ++ (spelling s.piece ++ kept_behind keeps (past f s.piece) ps)

-- the pieces of that text: an empty line is left where one is kept
abbrev pub left_behind : Bool → Before → List Spaced → List Spaced
left_behind keeps f [] = []
left_behind keeps f (s ∷ ps) =
    record { piece = s.piece; spaced = is_spaced (gap f s.piece) (stays keeps f s) }
    ∷ left_behind keeps (past f s.piece) ps

-- the layout with empty lines kept
abbrev pub laid_kept : List Spaced → List ℕ
laid_kept ps = kept_behind true beginning ps

-- the pieces of that text
abbrev pub left : List Spaced → List Spaced
left ps = left_behind true beginning ps
