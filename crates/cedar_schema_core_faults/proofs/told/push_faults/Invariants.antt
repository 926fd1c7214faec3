use Rattle.std.proofs.Common.{◌≡◌, ◌++◌, map}
use Rattle.std.specs.List.{flat_map}
use Rattle.cedar_data.specs.NonEmpty.{items_left}
use Rattle.cedar_schema_core_faults.specs.Told.{told, told_lines}
use Rattle.cedar_schema_core_faults.proofs.told.push_faults.Given as goal

abbrev pub invariant-loop-fault : goal.invariant-loop-fault
invariant-loop-fault g l =
    let told_of = told g.D.Diagnostic.text g.D.Diagnostic.labels g.D.Diagnostic.help l.source in
    l.lines ++ flat_map told_lines (map told_of (items_left l.fault-iterator))
    ≡ l.initial.lines ++ flat_map told_lines (map told_of l.faults)
