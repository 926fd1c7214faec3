use Rattle.schema_build_types.specs.Content.{content}
use Rattle.schema_build_types.specs.Lacks.{schema_lacks}
use Rattle.schema_build_recovered.proofs.text.refuse_lack.Goals as goal

pub returns-clause-lacks : goal.returns-clause-lacks
returns-clause-lacks c =
    c.refusal.ensures.named (schema_lacks (content c.args.entities.now c.args.actions.now)) c.in-Err.ensures.lack
