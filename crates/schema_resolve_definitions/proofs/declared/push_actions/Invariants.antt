use Rattle.std.proofs.Common.{◌≡◌, ◌++◌, map, take}
use Rattle.cedar_identifiers.specs.Names.{components_of}
use Rattle.cedar_names.specs.Definitions.{action_of}
use Rattle.schema_resolve_definitions.specs.Declarations.{action_type}
use Rattle.schema_resolve_definitions.proofs.declared.push_actions.Given as goal

abbrev pub invariant-loop-id : goal.invariant-loop-id
invariant-loop-id l = map action_of l.names.items ≡ map action_of l.initial.names.items
    ++ map (λ e. (components_of (action_type l.ns), e.0)) (take l.id-index l.actions)
