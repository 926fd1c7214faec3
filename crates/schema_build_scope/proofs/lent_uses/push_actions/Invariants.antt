use Rattle.std.proofs.Common.{◌≡◌, ◌++◌, map, take}
use Rattle.std.specs.List.{flat_map}
use Rattle.schema_build_scope.specs.LentCommons.{lent_type}
use Rattle.schema_build_scope.specs.Uses.{used_by_apply}
use Rattle.schema_build_scope.proofs.lent_uses.push_actions.Given as goal

abbrev pub invariant-loop-action : goal.invariant-loop-action
invariant-loop-action l =
    map lent_type l.uses.items
    ≡ map lent_type l.initial.uses.items
    ++ flat_map (λ d. used_by_apply l.ns d.1.applies_to) (take l.action-index l.actions)
