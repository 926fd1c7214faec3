use Rattle.std.proofs.Common.{◌≡◌, [], ◌++◌, vec_len}
use Rattle.schema_inclusion_explain.specs.Held.{outwards}
use Rattle.schema_inclusion_explain.specs.HeldReasons.{held_path}
use Rattle.schema_inclusion_explain.proofs.reasons.path.Given as goal

abbrev pub invariant-loop-step : goal.invariant-loop-step
invariant-loop-step l = held_path l.path ++ outwards l.steps.items [] ≡ outwards l.initial.steps.items []

abbrev pub decreases-loop-step : goal.decreases-loop-step
decreases-loop-step l = vec_len l.steps
