use Rattle.std.proofs.Common.{◌≡◌, ◌++◌, take, codes}
use Rattle.std.specs.List.{flat_map}
use Rattle.std.specs.Str.{chars}
use Rattle.schema_report.specs.Human.{place_block}
use Rattle.schema_report.proofs.human.push_others.Given as goal

abbrev pub invariant-loop-place : goal.invariant-loop-place
invariant-loop-place l = l.out ≡ l.initial.out ++ flat_map
    (place_block l.frame.colour l.frame.gutter l.frame.severity (chars l.path) l.lines (codes "::: "))
    (take l.place-index l.places)
