use Rattle.std.proofs.Common.{◌≡◌, ◌++◌, take}
use Rattle.std.specs.List.{flat_map}
use Rattle.schema_build_checks.specs.DeclaredAt.{called_action}
use Rattle.schema_build_checks.proofs.called_action.push_called_actions.Given as goal

abbrev pub invariant-loop-id : goal.invariant-loop-id
invariant-loop-id l = l.found.items ≡ l.initial.found.items
    ++ flat_map (called_action l.ns) (take l.id-index l.entities)
