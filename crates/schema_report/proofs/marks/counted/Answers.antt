use Rattle.std.proofs.Common.{◌≡◌, ap, ◌∙◌, arith}
use Rattle.std.proofs.lemmas.Str.{chars-nil}
use Rattle.std.specs.List.{sum_by}
use Rattle.std.specs.Str.{chars}
use Rattle.schema_report.specs.Places.{unit_len}
use Rattle.schema_report.proofs.CharLemmas.{unit_len_bounds, units_step, bytes_step}
use Rattle.schema_report.proofs.marks.counted.Goals as goal

pub first_char-requires-text-text : goal.first_char-requires-text-text
first_char-requires-text-text c κs = c.loop-c.invariant.utf8

pub loop-c-smaller : goal.loop-c-smaller
loop-c-smaller c =
    let bytes = bytes_step _ _ _ c.in-Some.ensures in
    let some = unit_len_bounds c.args.units c.in-Some.c in
    omega arith

pub loop-c-preserved : goal.loop-c-preserved
loop-c-preserved c =
    let step = units_step c.args.units _ _ _ c.in-Some.ensures in
    let bytes = bytes_step _ _ _ c.in-Some.ensures in
    let some = unit_len_bounds c.args.units c.in-Some.c in
    let len = c.len_of-sum.ensures in
    let before = c.loop-c.invariant.sum in
    let few = c.loop-c.invariant.few in
    record { sum = omega arith; few = omega arith; utf8 = c.in-Some.ensures.utf8 }

pub returns : goal.returns
returns c =
    let none : sum_by (unit_len c.args.units) (chars c.loop-c.rest.now) ≡ 0 =
    ap (λ text. sum_by (unit_len c.args.units) (chars text)) c.in_default.ensures
    ∙ ap (sum_by (unit_len c.args.units)) chars-nil in
    omega (arith, c.loop-c.invariant.sum)
