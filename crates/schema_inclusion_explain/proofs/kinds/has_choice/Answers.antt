use Rattle.std.proofs.Common.{◌||◌, ap, sym, ◌∙◌}
use Rattle.cedar_data.specs.NonEmpty.{items_left}
use Rattle.schema_inclusion_values.specs.Ids.{has_text}
use Rattle.schema_inclusion_check.specs.Parts.{ids_of}
use Rattle.schema_inclusion_explain.proofs.kinds.has_choice.Goals as goal

pub returns-then-same_text : goal.returns-then-same_text
returns-then-same_text c =
    let id = c.args.id.now in
    sym (c.loop-choice.invariant
    ∙ (ap (λ l. has_text (ids_of l) id) c.in-Some.ensures.steps
    ∙ ap (λ b. b || has_text (ids_of (items_left c.next.new.self)) id) (sym c.if-same_text.ensures)))
