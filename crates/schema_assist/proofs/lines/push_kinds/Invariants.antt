use Rattle.std.proofs.Common.{◌≡◌, ◌++◌, take}
use Rattle.std.specs.List.{flat_map}
use Rattle.schema_assist.specs.Lines.{kind_line}
use Rattle.schema_assist.proofs.lines.push_kinds.Given as goal

abbrev pub invariant-loop-kind : goal.invariant-loop-kind
invariant-loop-kind l = l.lines ≡ l.initial.lines ++ flat_map kind_line (take l.kind-index l.kinds)
