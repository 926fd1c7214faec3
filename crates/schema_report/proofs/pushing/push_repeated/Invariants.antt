use Rattle.std.proofs.Common.{◌≡◌, ◌++◌, replicate}
use Rattle.schema_report.proofs.pushing.push_repeated.Given as goal

abbrev pub invariant-loop-at : goal.invariant-loop-at
invariant-loop-at l = l.out ≡ l.initial.out ++ replicate l._at l.c
