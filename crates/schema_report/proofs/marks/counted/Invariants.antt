use Rattle.std.proofs.Common.{◌≡◌, ◌+◌, ◌≤◌, length}
use Rattle.std.specs.List.{sum_by}
use Rattle.std.specs.Str.{chars, IsUtf8}
use Rattle.schema_report.specs.Places.{unit_len}
use Rattle.schema_report.proofs.marks.counted.Given as goal

abbrev pub invariant-loop-c : goal.invariant-loop-c
invariant-loop-c l = record {
  sum : l.sum + sum_by (unit_len l.units) (chars l.rest) ≡ sum_by (unit_len l.units) (chars l.fn.text);
  few : l.sum + length l.rest ≤ length l.fn.text;
  utf8 : IsUtf8 l.rest;
}

abbrev pub decreases-loop-c : goal.decreases-loop-c
decreases-loop-c l = length l.rest
