use Rattle.std.proofs.Common.{ℕ, List, [], false, length}
use denote.Text.{Utf8}
use denote.Shadow.{shadow}
use Rattle.std.specs.String.{string_bytes}
use Rattle.schema_layout_pieces.specs.declared.context.Feeds.TheVariants.{NoFeed}
use Rattle.schema_layout_pieces.specs.Layout.{beginning}
use Rattle.schema_layout_pieces.specs.Writing.{IsWhole, is_near}
use Rattle.schema_layout_pieces.proofs.writer.write_layout.Given as goal

abbrev pub invariant-loop-context : goal.invariant-loop-context
invariant-loop-context l = shadow (Utf8 l.rest)
    × ((whole : List ℕ) → IsWhole l.keeps whole [] beginning false NoFeed l.initial.rest
    → IsWhole l.keeps whole (string_bytes l.out) l.context (is_near l.context.last) NoFeed l.rest)

abbrev pub decreases-loop-context : goal.decreases-loop-context
decreases-loop-context l = length l.rest
