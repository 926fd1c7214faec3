use Rattle.std.proofs.lemmas.Grind.{common_steps}
use Rattle.std.proofs.Common.{◌++◌, ap, sym, ◌∙◌, append-nil, arith}
use Rattle.schema_build_text.proofs.Rowed.{none_left}
use Rattle.schema_build_recovered.proofs.sets.listed.Goals as goal

pub returns : goal.returns
returns g c =
    let none = none_left c.loop-item.set.keys (λ h. c.in_default.ensures.variant.1 h) in
    sym (append-nil c.loop-item.list.items) ∙ ap (λ rest. c.loop-item.list.items ++ rest) (sym none)
    ∙ c.loop-item.invariant

pub loop-item-preserved : goal.loop-item-preserved
loop-item-preserved g c = grind (arith, common_steps)
