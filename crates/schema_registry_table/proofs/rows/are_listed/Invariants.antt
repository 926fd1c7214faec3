use Rattle.std.proofs.Common.{◌≡◌, ℕ, slice_get, Some, ◌<◌}
use Rattle.sqlite.specs.Order.{Row as Values}
use Rattle.schema_registry_table.specs.Table.{IsListedRow, text_in}
use Rattle.schema_registry_table.proofs.rows.are_listed.Given as goal

abbrev pub invariant-loop-id : goal.invariant-loop-id
invariant-loop-id l = (k : ℕ) (row : Values) → k < l.id → slice_get l.rows k ≡ Some row
    → IsListedRow k (text_in row) row
