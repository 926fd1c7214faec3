use Rattle.std.proofs.Common.{map, take}
use Rattle.std.specs.List.{AllZip}
use Rattle.schema_build_scope.specs.FragmentScope.{fragment_scope}
use Rattle.schema_build_hierarchy.specs.Entries.{entity_of}
use Rattle.schema_build_items.specs.Kinds.{IsKindBuilt}
use Rattle.schema_build_items.proofs.kinds.entity_kinds.Given as goal

abbrev pub invariant-loop-entry : goal.invariant-loop-entry
invariant-loop-entry l =
    AllZip (IsKindBuilt (fragment_scope l.names.fragment l.names.table))
    (take l.entry-index (map entity_of l.entries)) l.kinds.items
