use Rattle.std.proofs.Common.{◌≡◌, ◌++◌, map, take}
use Rattle.schema_build_hierarchy.specs.Declarations.{action_in}
use Rattle.schema_build_hierarchy.specs.Entries.{action_of_entry}
use Rattle.schema_build_hierarchy.proofs.entries.push_actions.Given as goal

abbrev pub invariant-loop-id : goal.invariant-loop-id
invariant-loop-id l = map action_of_entry l.entries.items ≡ map action_of_entry l.initial.entries.items
    ++ map (action_in l.ns) (take l.id-index l.actions)
