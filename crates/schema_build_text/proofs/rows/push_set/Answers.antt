use Rattle.std.proofs.Common.{codes, map, ap}
use Rattle.cedar_data.specs.Rows.{row_behind}
use Rattle.schema_build_text.specs.Growing.{so, adds_all}
use Rattle.schema_build_text.proofs.Rowed.{none_left, joined_row}
use Rattle.schema_build_text.proofs.rows.push_set.Goals as goal

pub returns : goal.returns
returns g c =
    so (adds_all c.loop-item.invariant
    (ap (λ ks. row_behind (codes ", ") c.loop-item.behind (map (λ x. g.T.Listed.shown x.now) ks))
    (none_left c.loop-item.set.keys (λ h. c.in_default.ensures.variant.1 h))))
    (joined_row (codes ", ") (map (λ x. g.T.Listed.shown x.now) c.args.set.keys))
