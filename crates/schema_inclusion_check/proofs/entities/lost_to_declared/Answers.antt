use Rattle.std.proofs.Common.{Some, cond, ap, sym, ◌∙◌}
use Rattle.std.specs.Option.{option_map}
use Rattle.std.proofs.lemmas.Result.{IfOk-weaker}
use Rattle.schema_inclusion_values.specs.Admits.{an_entity}
use Rattle.schema_inclusion_values.specs.Ids.{first_id}
use Rattle.schema_inclusion_values.specs.Lost.{with_id, lost_entity_between}
use Rattle.schema_inclusion_check.specs.Parts.{entity_meaning}
use Rattle.schema_inclusion_check.proofs.entities.lost_to_declared.Goals as goal

pub returns-then-new : goal.returns-then-new
returns-then-new c =
    let o = entity_meaning c.args.old.now in
    let k = entity_meaning c.args.new.now in
    IfOk-weaker c.first_entity.result _ _
    (λ found e m n told. e m n told
    ∙ ap (λ b. option_map an_entity (cond b (Some (with_id m n o (first_id o.choices))) (lost_entity_between m n o k)))
    (sym c.if-new.true))
    c.first_entity.ensures

pub returns-else-new : goal.returns-else-new
returns-else-new c =
    let o = entity_meaning c.args.old.now in
    let k = entity_meaning c.args.new.now in
    IfOk-weaker c.lost_between.result _ _
    (λ found e m n told. e m n told
    ∙ ap (λ b. option_map an_entity (cond b (Some (with_id m n o (first_id o.choices))) (lost_entity_between m n o k)))
    (sym c.if-new.false))
    c.lost_between.ensures
