use Rattle.std.proofs.Common.{◌||◌, ◌+◌, drop, ap, sym, ◌∙◌}
use Rattle.schema_build_text.proofs.Rowed.{dropped}
use Rattle.schema_inclusion_values.specs.Ids.{has_text}
use Rattle.schema_inclusion_check.specs.Told.{texts_now}
use Rattle.schema_inclusion_check.proofs.choices.has_text.Goals as goal

pub returns-then-same_text : goal.returns-then-same_text
returns-then-same_text c =
    let ids = c.args.ids.now in
    let id = c.args.id.now in
    let at = c.loop-other.other-index in
    sym (c.loop-other.invariant
    ∙ (ap (λ l. has_text (texts_now l) id) (dropped ids at c.other-item.result c.loop-other-test.true c.other-item.is)
    ∙ ap (λ b. b || has_text (texts_now (drop (at + 1) ids)) id) (sym c.if-same_text.ensures)))
