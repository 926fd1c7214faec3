use Rattle.std.proofs.Common.{◌≡◌, ◌↔◌, drop, map}
use Rattle.schema_build_types.specs.Content.{action_content}
use Rattle.schema_build_equal.proofs.actions.same_declared_actions.Given as goal

abbrev pub invariant-loop-at : goal.invariant-loop-at
invariant-loop-at l =
    (map action_content l.a ≡ map action_content l.b)
    ↔ (map action_content (drop l.at l.a) ≡ map action_content (drop l.at l.b))
