use Rattle.std.proofs.Common.{◌≡◌, ◌++◌, length}
use Rattle.std.specs.List.{flat_map}
use Rattle.std.specs.Str.{chars, IsUtf8}
use Rattle.schema_report.specs.Escapes.{written_for}
use Rattle.schema_report.proofs.escape.push_escaped.Given as goal

abbrev pub invariant-loop-c : goal.invariant-loop-c
invariant-loop-c l = record {
  written : l.out ++ flat_map (written_for l.escape) (chars l.rest)
      ≡ l.initial.out ++ flat_map (written_for l.escape) (chars l.fn.text);
  utf8 : IsUtf8 l.rest;
}

abbrev pub decreases-loop-c : goal.decreases-loop-c
decreases-loop-c l = length l.rest
