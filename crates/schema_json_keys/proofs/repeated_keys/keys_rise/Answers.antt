use Rattle.std.proofs.Common.{arith}
use Rattle.schema_json_keys.proofs.Firsts.{rising}
use Rattle.schema_json_keys.proofs.repeated_keys.keys_rise.Goals as goal

pub returns : goal.returns
returns c = λ e. rising c.args.members.now.items
    (λ k d lt. c.loop-next.invariant k d (omega (arith, lt, c.loop-next-test.false, c.len-next-end.ensures)))
