use Rattle.std.proofs.Common.{◌≡◌, ◌++◌, take, string_bytes}
use Rattle.std.specs.List.{flat_map}
use Rattle.schema_report.specs.Json.{later_place}
use Rattle.schema_report.proofs.json_lines.push_others.Given as goal

abbrev pub invariant-loop-place : goal.invariant-loop-place
invariant-loop-place l = string_bytes l.out
    ≡ string_bytes l.initial.out ++ flat_map later_place (take l.place-index l.places)
