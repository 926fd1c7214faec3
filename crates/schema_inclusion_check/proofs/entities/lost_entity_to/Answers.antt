use Rattle.std.proofs.Common.{ap, sym, ◌∙◌}
use Rattle.std.specs.Option.{option_copied, option_map}
use Rattle.std.proofs.lemmas.Result.{IfOk-weaker}
use Rattle.schema_inclusion_values.specs.Admits.{an_entity}
use Rattle.schema_inclusion_values.specs.Lost.{lost_entity_to}
use Rattle.schema_inclusion_check.specs.Parts.{entity_meaning}
use Rattle.schema_inclusion_check.proofs.entities.lost_entity_to.Goals as goal

pub returns-in-None : goal.returns-in-None
returns-in-None c =
    let o = entity_meaning c.args.old.now in
    IfOk-weaker c.first_entity.result _ _
    (λ found e m n told. e m n told
    ∙ ap (λ r. option_map an_entity (lost_entity_to m n o (option_map entity_meaning (option_copied r))))
    (sym c.in-None.is))
    c.first_entity.ensures
