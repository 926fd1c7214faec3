use Rattle.std.proofs.Common.{ℕ, ◌≤◌, List, length}
use denote.Text.{Utf8}
use denote.Shadow.{shadow}
use Rattle.std.specs.String.{string_bytes}
use Rattle.schema_layout_pieces.specs.Writing.{IsWhole}
use Rattle.schema_layout_pieces.proofs.writer.push_comments.Given as goal

abbrev pub invariant-loop-rest : goal.invariant-loop-rest
invariant-loop-rest l = shadow (Utf8 l.rest)
    × (length l.rest ≤ length l.initial.rest)
    × ((whole : List ℕ)
    → IsWhole l.keeps whole (string_bytes l.initial.text) l.initial.context l.initial.near l.initial.feeds
    l.initial.rest
    → IsWhole l.keeps whole (string_bytes l.text) l.context l.near l.feeds l.rest)

abbrev pub decreases-loop-rest : goal.decreases-loop-rest
decreases-loop-rest l = length l.rest
