use Rattle.std.proofs.Common.{codes, map, drop}
use Rattle.cedar_data.specs.Rows.{row_behind}
use Rattle.schema_inclusion_values.specs.Seen.{parents_value}
use Rattle.schema_inclusion_shown.specs.Grown.{Leaves}
use Rattle.schema_inclusion_shown.specs.ValueTexts.{entity_text}
use Rattle.schema_inclusion_shown.proofs.schema_values.push_row.Given as goal

abbrev pub invariant-loop-ty : goal.invariant-loop-ty
invariant-loop-ty l =
    Leaves l.initial.text l.text
    (row_behind (codes ", ") l.behind (map entity_text (parents_value (drop l.ty-index l.parents))))
    (row_behind (codes ", ") l.initial.behind (map entity_text (parents_value l.parents)))
