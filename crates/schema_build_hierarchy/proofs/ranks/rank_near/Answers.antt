use Rattle.std.proofs.Common.{◌+◌, ◌-◌, ◌/◌, sym, ◌∙◌, arith}
use Rattle.schema_build_hierarchy.proofs.Ranked.{rank_at}
use Rattle.schema_build_hierarchy.proofs.ranks.rank_near.Goals as goal

pub returns-in-Equal : goal.returns-in-Equal
returns-in-Equal g c =
    let middle = c.loop-low.low + (c.loop-low.high - c.loop-low.low) / 2 in
    rank_at g.K.Ord.cmp (λ e. e.name) c.args.entries.now c.args.name.now middle c.index-entries-middle.result
    (omega arith) (sym c.cmp.ensures ∙ c.in-Equal.is)
