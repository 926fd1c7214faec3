use Rattle.std.proofs.Common.{[], length}
use denote.Text.{Utf8}
use denote.Shadow.{shadow}
use Rattle.cedar_identifiers.specs.NamePieces.{BeginsWith}
use Rattle.cedar_identifiers.proofs.name_pieces.past_blanks.Given as goal

abbrev pub invariant-loop-after : goal.invariant-loop-after
invariant-loop-after l = shadow (Utf8 l.rest) × BeginsWith l.fn.text [] l.rest

abbrev pub decreases-loop-after : goal.decreases-loop-after
decreases-loop-after l = length l.rest
