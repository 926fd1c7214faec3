use Rattle.std.proofs.Common.{length}
use denote.Text.{Utf8}
use denote.Shadow.{shadow}
use Rattle.schema_syntax_tree.proofs.Fed.{IsFedTo}
use Rattle.schema_syntax_tree.proofs.src_str.feed_value.Given as goal

abbrev pub invariant-loop-character : goal.invariant-loop-character
invariant-loop-character g l = shadow (Utf8 l.rest) × IsFedTo g.H.Hasher.write l.initial.state l.state l.body l.rest

abbrev pub decreases-loop-character : goal.decreases-loop-character
decreases-loop-character g l = length l.rest
