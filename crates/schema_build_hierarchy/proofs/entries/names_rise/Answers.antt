use Rattle.std.proofs.Common.{arith}
use Rattle.schema_build_hierarchy.proofs.Rising.{rising_seen}
use Rattle.schema_build_hierarchy.proofs.entries.names_rise.Goals as goal

pub returns : goal.returns
returns g c = λ e.
    rising_seen (λ e. e.name) g.met.K.Ord.total c.args.entries.now.items
    (λ k d lt. c.loop-next.invariant k d (omega (arith, lt, c.loop-next-test.false, c.len-next-end.ensures)))
