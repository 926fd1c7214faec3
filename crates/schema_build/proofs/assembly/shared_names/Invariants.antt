use Rattle.std.proofs.Common.{map, take}
use Rattle.schema_build.specs.Assembly.{AreSharedOf}
use Rattle.schema_build.proofs.assembly.shared_names.Given as goal

abbrev pub invariant-loop-at : goal.invariant-loop-at
invariant-loop-at g l = AreSharedOf (take l.at (map (λ e. e.name) l.entries)) l.shared.items
