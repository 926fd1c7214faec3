use Rattle.std.proofs.Common.{arith}
use Rattle.cedar_data.proofs.Rising.{rising}
use Rattle.schema_convert_fragments.proofs.entries.entries_rise.Goals as goal

pub returns : goal.returns
returns g c = λ e.
    rising g.K.Ord.cmp g.met.K.Ord.total c.args.entries.now.items
    (λ k d lt. c.loop-next.invariant k d (omega (arith, lt, c.loop-next-test.false, c.len-next-end.ensures)))
