use Rattle.std.proofs.Common.{◌≡◌, find}
use Rattle.cedar_data.specs.NonEmpty.{items_left}
use Rattle.schema_resolve_definitions.specs.Tests.{tests_of}
use Rattle.schema_resolve_targets.specs.Targets.{is_action}
use Rattle.schema_resolve_targets.proofs.targets.first_action.Given as goal

abbrev pub invariant-loop-ty : goal.invariant-loop-ty
invariant-loop-ty l = find (is_action (tests_of l.defs) l.id) (items_left l.ty-iterator)
    ≡ find (is_action (tests_of l.defs) l.id) l.types
