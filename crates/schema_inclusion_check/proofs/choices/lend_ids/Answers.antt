use Rattle.std.proofs.Common.{◌++◌, ap, sym, ◌∙◌}
use Rattle.std.proofs.lemmas.List.{append-nil}
use Rattle.schema_inclusion_check.specs.Parts.{ids_of}
use Rattle.schema_inclusion_check.specs.Told.{texts_now}
use Rattle.schema_inclusion_check.proofs.choices.lend_ids.Goals as goal

pub returns : goal.returns
returns c =
    sym (append-nil (texts_now c.loop-choice.ids.items))
    ∙ (ap (λ l. texts_now c.loop-choice.ids.items ++ ids_of l) (sym c.in-None.ensures.steps.0)
    ∙ c.loop-choice.invariant)
