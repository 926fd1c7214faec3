use Rattle.std.proofs.Common.{◌∙◌, ap, ◌++◌}
use Rattle.std.specs.List.{flat_map}
use Rattle.schema_resolve_definitions.proofs.Sets.{next_given, all_given}
use Rattle.schema_assist_offers.specs.Homes.{question}
use Rattle.schema_assist_offers.specs.Spellings.{spelled}
use Rattle.schema_assist_offers.proofs.words.push_commons.Goals as goal

pub loop-id-preserved : goal.loop-id-preserved
loop-id-preserved c = λ before h.
    next_given (λ e. spelled (question c.args.asked.now) c.args.kind before e.0.id.id.text)
    c.as_slice-id-items.result.now c.loop-id.id-index c.loop-id-item.result c.args.names.now.items c.loop-id.names.items c.push_word.new.names.items
    c.loop-id-test.true c.loop-id-item.is (c.loop-id.invariant before h) (c.in_ok-push_word.ensures before h)

pub returns : goal.returns
returns c = λ before h.
    all_given (λ e. spelled (question c.args.asked.now) c.args.kind before e.0.id.id.text)
    c.as_slice-id-items.result.now c.loop-id.id-index c.args.names.now.items c.loop-id.names.items c.loop-id-test.false (c.loop-id.invariant before h)
    ∙ ap (λ l. c.args.names.now.items
    ++ flat_map (λ e. spelled (question c.args.asked.now) c.args.kind before e.0.id.id.text) l)
    c.as_slice-id-items.ensures.entries
