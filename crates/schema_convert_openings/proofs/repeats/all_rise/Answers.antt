use Rattle.std.proofs.Common.{arith}
use Rattle.std.specs.Ordering.{nat_cmp}
use Rattle.std.proofs.lemmas.Cmp.{nat_cmp_total}
use Rattle.schema_convert_openings.proofs.Apart.{rising}
use Rattle.schema_convert_openings.proofs.repeats.all_rise.Goals as goal

pub returns : goal.returns
returns c = λ e.
    rising nat_cmp nat_cmp_total c.args.numbers.now.items
    (λ k d lt. c.loop-next.invariant k d (omega (arith, lt, c.loop-next-test.false, c.len-next-end.ensures)))
