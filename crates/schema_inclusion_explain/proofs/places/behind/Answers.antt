use Rattle.std.proofs.Common.{[], ap, ◌∙◌}
use Rattle.schema_inclusion_explain.specs.Held.{outwards, held_cause}
use Rattle.schema_inclusion_explain.proofs.Steps.{outermost}
use Rattle.schema_inclusion_explain.proofs.places.behind.Goals as goal

pub returns : goal.returns
returns c = λ i. (
  (ap (λ ss. outwards ss []) c.in_ok-push.ensures.items ∙ outermost c.args.found.steps.items c.args.step []) i,
  held_cause c.args.found.cause,
)
