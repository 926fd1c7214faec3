use Rattle.std.proofs.Common.{sym, ◌∙◌}
use Rattle.cedar_data.specs.NonEmpty.{items_left}
use Rattle.schema_build_text.proofs.Plain.{is_found, is_nowhere}
use Rattle.schema_build_text.proofs.captured.names_hold.Goals as goal

pub returns-then-is_plain_action : goal.returns-then-is_plain_action
returns-then-is_plain_action c =
    is_found c.args.names.now (items_left c.loop-name.name-iterator) (items_left c.next.new.self) c.in-Some.name.now
    c.loop-name.invariant c.in-Some.ensures.steps
    (sym c.if-is_plain_action.true ∙ c.is_plain_action.ensures)

pub returns : goal.returns
returns c = is_nowhere c.args.names.now (items_left c.loop-name.name-iterator) c.loop-name.invariant
    c.in-None.ensures.steps.0
