use Rattle.std.proofs.Common.{◌+◌, ◌≤◌, length, drop}
use Rattle.schema_convert_openings.specs.Joined.{outside}
use Rattle.schema_convert_openings.proofs.joined.count_outside.Given as goal

abbrev pub invariant-loop-namespace : goal.invariant-loop-namespace
invariant-loop-namespace l =
    l.count + length (outside (drop l.namespace-index l.namespaces)) ≤ length (outside l.namespaces)
