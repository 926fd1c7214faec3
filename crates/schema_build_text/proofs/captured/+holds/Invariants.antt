use Rattle.std.proofs.Common.{◌≡◌, ◌+◌, ◌*◌, drop}
use Rattle.std.specs.Map.{values_of}
use denote.Param.Weighed.{most}
use Rattle.schema_build_types.specs.declared.types.Type.{size-Type}
use Rattle.schema_build_types.specs.Content.{attributes_content}
use Rattle.schema_build_text.specs.Captured.{some_hold}
use Rattle.schema_build_text.proofs.captured.+holds.Given as goal

abbrev pub decreases-holds : goal.decreases-holds
decreases-holds l = 3 * goal.size-holds l

abbrev pub decreases-some_hold : goal.decreases-some_hold
decreases-some_hold l = 3 * most (λ p. size-Type p.0) (values_of l.entries.now) + 1

abbrev pub invariant-some_hold-loop-ty : goal.invariant-some_hold-loop-ty
invariant-some_hold-loop-ty l =
    some_hold (attributes_content l.entries) ≡ some_hold (attributes_content (drop l.ty-index l.entries))
