use Rattle.std.proofs.Common.{◌∷◌, length}
use denote.Text.{Utf8}
use denote.Shadow.{shadow}
use Rattle.cedar_identifiers.specs.Fronts.{word_texts}
use Rattle.cedar_identifiers.proofs.Reading.{IsRead}
use Rattle.cedar_identifiers.proofs.name_reader.read_words.Given as goal

abbrev pub invariant-loop-others : goal.invariant-loop-others
invariant-loop-others l = shadow (Utf8 l.rest) × IsRead l.kind l.text (word_texts (l.first ∷ l.others.items)) l.rest

abbrev pub decreases-loop-others : goal.decreases-loop-others
decreases-loop-others l = length l.rest
