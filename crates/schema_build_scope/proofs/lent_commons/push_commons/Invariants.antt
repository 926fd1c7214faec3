use Rattle.std.proofs.Common.{◌≡◌, ◌++◌, map, take}
use Rattle.schema_build_scope.specs.Commons.{full_common_entry}
use Rattle.schema_build_scope.specs.LentCommons.{lent_commons}
use Rattle.schema_build_scope.proofs.lent_commons.push_commons.Given as goal

abbrev pub invariant-loop-id : goal.invariant-loop-id
invariant-loop-id l =
    lent_commons l.found.items ≡ lent_commons l.initial.found.items
    ++ map (full_common_entry l.ns) (take l.id-index l.commons)
