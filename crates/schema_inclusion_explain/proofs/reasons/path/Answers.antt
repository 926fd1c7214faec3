use Rattle.std.proofs.Common.{◌≡◌, [], ◌++◌, sym, subst}
use Rattle.schema_inclusion_explain.specs.Held.{outwards}
use Rattle.schema_inclusion_explain.specs.HeldReasons.{held_path}
use Rattle.schema_inclusion_explain.proofs.Steps.{step_over}
use Rattle.schema_inclusion_explain.proofs.reasons.path.Goals as goal

pub loop-step-preserved : goal.loop-step-preserved
loop-step-preserved c =
    subst (λ p. held_path p ++ outwards c.pop.new.self.items [] ≡ outwards c.args.steps.items [])
    (sym c.in_ok-push.ensures.ok)
    (step_over c.loop-step.path c.loop-step.steps.items c.pop.new.self.items c.in-Some.step
    (outwards c.args.steps.items []) c.in-Some.ensures.items c.loop-step.invariant)
