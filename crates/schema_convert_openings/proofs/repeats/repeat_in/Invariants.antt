use Rattle.schema_convert_openings.proofs.Seen.{Seen}
use Rattle.schema_convert_openings.proofs.repeats.repeat_in.Given as goal

abbrev pub invariant-loop-item : goal.invariant-loop-item
invariant-loop-item g l = Seen (λ a b. g.T.Ord.cmp a.now b.now) l.item-items l.item-index l.seen.entries
