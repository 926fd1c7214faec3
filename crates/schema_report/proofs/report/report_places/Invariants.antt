use Rattle.std.proofs.Common.{◌≡◌, take}
use Rattle.std.specs.List.{flat_map}
use Rattle.schema_report.specs.Reports.{label_places}
use Rattle.schema_report.proofs.report.report_places.Given as goal

abbrev pub invariant-loop-label : goal.invariant-loop-label
invariant-loop-label l = l.places ≡ flat_map (label_places l.lines.text) (take l.label-index l.labels)
