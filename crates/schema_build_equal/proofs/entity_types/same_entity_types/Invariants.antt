use Rattle.std.proofs.Common.{◌≡◌, ◌↔◌, drop, map}
use Rattle.schema_build_types.specs.Content.{entity_content}
use Rattle.schema_build_equal.proofs.entity_types.same_entity_types.Given as goal

abbrev pub invariant-loop-at : goal.invariant-loop-at
invariant-loop-at l =
    (map entity_content l.a ≡ map entity_content l.b)
    ↔ (map entity_content (drop l.at l.a) ≡ map entity_content (drop l.at l.b))
