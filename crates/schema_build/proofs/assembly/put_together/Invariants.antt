use Rattle.std.proofs.Common.{◌≡◌, map}
use Rattle.schema_build.proofs.assembly.put_together.Given as goal

abbrev pub invariant-loop-parts : goal.invariant-loop-parts
invariant-loop-parts g l = l.built.items ≡ map g.B.Assembled.assembly l.yielded
