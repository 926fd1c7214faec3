use Rattle.std.proofs.Common.{map, take}
use Rattle.schema_build.specs.Assembly.{AreAllAt}
use Rattle.schema_build.proofs.assembly.all_names_at.Given as goal

abbrev pub invariant-loop-row : goal.invariant-loop-row
invariant-loop-row g l = AreAllAt (map (λ e. e.name) l.entries) (take l.row-index l.rows) l.lists.items
