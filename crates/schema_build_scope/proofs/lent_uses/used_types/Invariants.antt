use Rattle.std.proofs.Common.{◌≡◌, map, take}
use Rattle.std.specs.List.{flat_map}
use Rattle.schema_build_scope.specs.LentCommons.{lent_type}
use Rattle.schema_build_scope.specs.Uses.{used_in}
use Rattle.schema_build_scope.proofs.lent_uses.used_types.Given as goal

abbrev pub invariant-loop-ns : goal.invariant-loop-ns
invariant-loop-ns l = map lent_type l.uses.items ≡ flat_map used_in (take l.ns-index l.ns-items)
