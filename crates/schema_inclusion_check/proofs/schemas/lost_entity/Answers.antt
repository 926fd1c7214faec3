use Rattle.std.proofs.Common.{◌≡◌, None, false, ap, sym, ◌∙◌}
use Rattle.std.specs.Option.{option_copied, option_map}
use Rattle.std.proofs.lemmas.Result.{IfOk-weaker}
use Rattle.schema_inclusion_values.specs.Admits.{an_entity}
use Rattle.schema_inclusion_check.specs.Parts.{entity_meaning}
use Rattle.schema_inclusion_check.specs.Raw.{raw_entity}
use Rattle.schema_inclusion_check.proofs.Keyed.{own_entity}
use Rattle.schema_inclusion_check.proofs.schemas.lost_entity.Goals as goal

pub returns-in-None : goal.returns-in-None
returns-in-None c =
    let raw = raw_entity c.args.old.now in
    let says = c.entity_parts-old.ensures.says in
    let own : raw.is_external ≡ false = ap (λ e. e.is_external) (sym says) ∙ c.if-old.false in
    IfOk-weaker c.lost_entity_to.result _ _
    (λ found e m n told p. e m n told ∙ ap (option_map an_entity) (own_entity m n raw
    (entity_meaning c.entity_parts-old.result) None says own
    (ap (λ r. option_map raw_entity (option_copied r)) (sym c.in-None.is) ∙ p)))
    c.lost_entity_to.ensures
