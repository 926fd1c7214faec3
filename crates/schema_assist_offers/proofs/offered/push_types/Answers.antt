use Rattle.schema_assist_offers.proofs.Arms.{three_added}
use Rattle.schema_assist_offers.proofs.offered.push_types.Goals as goal

pub returns : goal.returns
returns c = λ before h.
    three_added c.push_action_type.result c.args.names.now.items c.push_entities.new.names.items
    c.push_commons.new.names.items c.push_action_type.new.names.items _ _ _ (c.in_ok-push_entities.ensures before h)
    (c.in_ok-push_commons.ensures before h) (c.push_action_type.ensures before h)
