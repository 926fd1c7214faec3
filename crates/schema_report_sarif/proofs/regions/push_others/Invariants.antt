use Rattle.std.proofs.Common.{◌≡◌, ◌++◌, take, string_bytes}
use Rattle.std.specs.List.{flat_map}
use Rattle.schema_report_sarif.specs.Sarif.{later_location}
use Rattle.schema_report_sarif.proofs.regions.push_others.Given as goal

abbrev pub invariant-loop-place : goal.invariant-loop-place
invariant-loop-place l = string_bytes l.out
    ≡ string_bytes l.initial.out ++ flat_map (later_location l.path) (take l.place-index l.places)
