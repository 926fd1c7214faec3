use Rattle.std.proofs.Common.{length}
use Rattle.schema_convert_plain.proofs.Readings.{HasRead}
use Rattle.schema_convert_plain.proofs.reading.fragment_at_once.Given as goal

abbrev pub invariant-loop-gathered : goal.invariant-loop-gathered
invariant-loop-gathered l = HasRead l.text l.fn.tokens l.table l.rest l.gathered

abbrev pub decreases-loop-gathered : goal.decreases-loop-gathered
decreases-loop-gathered l = length l.rest
