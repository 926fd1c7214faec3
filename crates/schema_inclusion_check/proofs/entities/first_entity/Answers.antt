use Rattle.std.proofs.Common.{Some, ap, ◌∙◌}
use Rattle.schema_inclusion_values.specs.Admits.{an_entity}
use Rattle.schema_inclusion_values.specs.Lost.{with_id}
use Rattle.schema_inclusion_check.specs.Parts.{entity_meaning}
use Rattle.schema_inclusion_check.proofs.entities.first_entity.Goals as goal

pub returns : goal.returns
returns c = λ m n told.
    ap Some (c.in_ok-with_id.ensures m n told
    ∙ ap (λ i. an_entity (with_id m n (entity_meaning c.args.old.now) i)) c.in_ok-id.ensures)
