use Rattle.std.proofs.Common.{◌≡◌, ◌++◌, take}
use Rattle.std.specs.List.{flat_map}
use Rattle.cedar_schema_core_faults.specs.Told.{label_line}
use Rattle.cedar_schema_core_faults.proofs.told.push_labels.Given as goal

abbrev pub invariant-loop-label : goal.invariant-loop-label
invariant-loop-label l = l.lines ≡ l.initial.lines ++ flat_map label_line (take l.label-index l.labels)
