use Rattle.std.proofs.Common.{◌≡◌, ℕ, length, Vec, Some}
use Rattle.std.specs.Prelude.{slice_get}
use Rattle.std.specs.declared.alloc.Global.{Global}
use Rattle.schema_json_walk.specs.Walk.{parts}
use Rattle.schema_build_expand.specs.Ranks.{AreMeantRanks}
use Rattle.schema_build_expand.proofs.expand_all.rows_of.Given as goal

abbrev pub invariant-loop-names : goal.invariant-loop-names
invariant-loop-names g l = record {
  same : length l.rows.items ≡ l.names-index;
  each : (k : ℕ) (row : Vec ℕ Global) → slice_get l.rows.items k ≡ Some row → (c : _)
      → slice_get l.commons k ≡ Some c → AreMeantRanks g.s (g.R.Meanings.place c.0) (parts c.1.now) row.items;
}
