use Rattle.std.proofs.Common.{codes, map, length}
use Rattle.cedar_data.specs.Rows.{row_behind}
use Rattle.schema_build_text.specs.Growing.{Leaves}
use Rattle.schema_build_text.proofs.rows.push_set.Given as goal

abbrev pub invariant-loop-item : goal.invariant-loop-item
invariant-loop-item g l =
    Leaves l.initial.text l.text (row_behind (codes ", ") l.behind (map (λ x. g.T.Listed.shown x.now) l.set.keys))
    (row_behind (codes ", ") l.initial.behind (map (λ x. g.T.Listed.shown x.now) l.initial.set.keys))

abbrev pub decreases-loop-item : goal.decreases-loop-item
decreases-loop-item g l = length l.set.keys
