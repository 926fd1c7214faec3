use Rattle.std.proofs.Common.{◌≡◌, drop, map}
use Rattle.std.specs.List.{list_any}
use Rattle.cedar_names.specs.Definitions.{action_of}
use Rattle.schema_inclusion_values.specs.Lost.{same_key}
use Rattle.schema_inclusion_explain.proofs.reasons.has_action.Given as goal

abbrev pub invariant-loop-other : goal.invariant-loop-other
invariant-loop-other l =
    list_any (same_key (action_of l.action)) (map action_of l.actions)
    ≡ list_any (same_key (action_of l.action)) (map action_of (drop l.other-index l.actions))
