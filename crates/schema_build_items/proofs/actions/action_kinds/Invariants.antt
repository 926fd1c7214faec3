use Rattle.std.proofs.Common.{map, take}
use Rattle.std.specs.List.{AllZip}
use Rattle.schema_build_scope.specs.FragmentScope.{fragment_scope}
use Rattle.schema_build_hierarchy.specs.Entries.{action_of_entry}
use Rattle.schema_build_items.specs.ActionKinds.{IsActionKindBuilt, tests_alone}
use Rattle.schema_build_items.proofs.actions.action_kinds.Given as goal

abbrev pub invariant-loop-entry : goal.invariant-loop-entry
invariant-loop-entry l =
    AllZip (IsActionKindBuilt (tests_alone l.names.fragment l.names.table)
    (fragment_scope l.names.fragment l.names.table)) (take l.entry-index (map action_of_entry l.entries)) l.kinds.items
