use Rattle.std.proofs.Common.{◌≡◌, map, take}
use Rattle.std.specs.List.{flat_map}
use Rattle.schema_build_scope.specs.Commons.{full_common_entry}
use Rattle.schema_build_scope.specs.LentCommons.{lent_commons}
use Rattle.schema_build_scope.proofs.lent_commons.declared_commons.Given as goal

abbrev pub invariant-loop-ns : goal.invariant-loop-ns
invariant-loop-ns l =
    lent_commons l.found.items
    ≡ flat_map (λ e. map (full_common_entry e.0) e.1.common_types) (take l.ns-index l.ns-items)
