use Rattle.std.proofs.Common.{◌≡◌, ◌++◌, take, filter}
use Rattle.schema_report_likeness.specs.Likeness.{is_alike}
use Rattle.schema_report_likeness.proofs.likeness.push_alike.Given as goal

abbrev pub invariant-loop-other : goal.invariant-loop-other
invariant-loop-other l =
    l.found.items ≡ l.initial.found.items ++ filter (is_alike l.name l.edits) (take l.other-index l.known)
