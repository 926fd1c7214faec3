use Rattle.std.proofs.Common.{codes, map, drop}
use Rattle.cedar_data.specs.Rows.{row_behind}
use Rattle.schema_build_text.specs.Growing.{Leaves}
use Rattle.schema_build_text.proofs.rows.push_row.Given as goal

abbrev pub invariant-loop-item : goal.invariant-loop-item
invariant-loop-item g l =
    Leaves l.initial.text l.text (row_behind (codes ", ") l.behind (map g.T.Listed.shown (drop l.item-index l.items)))
    (row_behind (codes ", ") l.initial.behind (map g.T.Listed.shown l.items))
