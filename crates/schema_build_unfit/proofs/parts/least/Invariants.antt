use Rattle.schema_build_unfit.proofs.Least.{IsLeastSoFar}
use Rattle.schema_build_unfit.proofs.parts.least.Given as goal

abbrev pub invariant-loop-name : goal.invariant-loop-name
invariant-loop-name l = IsLeastSoFar l.first l.others l.name-index l.least
