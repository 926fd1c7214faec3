use Rattle.std.proofs.Common.{◌≡◌, take}
use Rattle.std.specs.List.{flat_map}
use Rattle.schema_build_checks.specs.DeclaredAt.{called_action}
use Rattle.schema_build_checks.proofs.called_action.check_action_types.Given as goal

abbrev pub invariant-loop-ns : goal.invariant-loop-ns
invariant-loop-ns l = l.found.items
    ≡ flat_map (λ e. flat_map (called_action e.0) e.1.entity_types) (take l.ns-index l.ns-items)
