use Rattle.std.proofs.Common.{◌≡◌, Some, None, ap, sym, ◌∙◌}
use Rattle.std.specs.Option.{option_copied, option_map}
use Rattle.std.proofs.lemmas.Result.{IfOk-weaker}
use Rattle.schema_inclusion_values.specs.Admits.{an_action}
use Rattle.schema_inclusion_check.specs.Parts.{action_meaning}
use Rattle.schema_inclusion_check.specs.Raw.{raw_action}
use Rattle.schema_inclusion_check.proofs.Keyed.{action_under}
use Rattle.schema_inclusion_check.proofs.schemas.lost_action.Goals as goal

pub returns-in-None : goal.returns-in-None
returns-in-None c =
    let raw = raw_action c.args.old.now in
    IfOk-weaker c.lost_action_to.result _ _
    (λ found e m n p. e m n ∙ ap (option_map an_action) (action_under m n raw
    (action_meaning c.action_parts-old.result) None c.action_parts-old.ensures.says
    (ap (λ r. option_map raw_action (option_copied r)) (sym c.in-None.is) ∙ p)))
    c.lost_action_to.ensures

pub returns-in-Some : goal.returns-in-Some
returns-in-Some c =
    let raw = raw_action c.args.old.now in
    IfOk-weaker c.lost_action_to-in-Some.result _ _
    (λ found e m n p. e m n ∙ ap (option_map an_action) (action_under m n raw
    (action_meaning c.action_parts-old.result) (Some (action_meaning c.action_parts.result))
    c.action_parts-old.ensures.says
    (ap Some c.action_parts.ensures.says
    ∙ (ap (λ r. option_map raw_action (option_copied r)) (sym c.in-Some.is) ∙ p))))
    c.lost_action_to-in-Some.ensures
