use Rattle.std.proofs.Common.{ap, sym}
use Rattle.std.proofs.lemmas.Result.{on_ok_weaker}
use Rattle.schema_build_text.specs.Growing.{so}
use Rattle.schema_build_text.specs.Items.{item_content, item_front}
use Rattle.schema_build_text.proofs.items.push_item.Goals as goal

pub returns-in-EntityType : goal.returns-in-EntityType
returns-in-EntityType c =
    on_ok_weaker c.push_entity_type.result
    (λ e. so e (ap (λ x. item_front c.args.base (item_content x)) (sym c.in-EntityType.is))) c.push_entity_type.ensures

pub returns-in-Action : goal.returns-in-Action
returns-in-Action c =
    on_ok_weaker c.push_action.result
    (λ e. so e (ap (λ x. item_front c.args.base (item_content x)) (sym c.in-Action.is))) c.push_action.ensures
