use Rattle.std.proofs.Common.{codes, map}
use Rattle.std.proofs.lemmas.List.{at_drop_all}
use Rattle.cedar_data.specs.Rows.{row_behind}
use Rattle.schema_inclusion_values.specs.Seen.{parents_value}
use Rattle.schema_inclusion_shown.specs.ValueTexts.{entity_text}
use Rattle.schema_inclusion_shown.proofs.Growing.{then, begun, round, adds_all}
use Rattle.schema_inclusion_shown.proofs.Rowed.{parent_step}
use Rattle.schema_inclusion_shown.proofs.schema_values.push_row.Goals as goal

pub loop-ty-init : goal.loop-ty-init
loop-ty-init c = begun c.args.text.now _

pub loop-ty-preserved : goal.loop-ty-preserved
loop-ty-preserved c =
    round (then c.in_ok-push_between.ensures c.in_ok-push_entity.ensures) c.loop-ty.invariant
    (parent_step c.loop-ty.behind c.args.parents.now c.loop-ty.ty-index c.loop-ty-item.result c.loop-ty-test.true
    c.loop-ty-item.is)

pub returns : goal.returns
returns c =
    adds_all c.loop-ty.invariant
    (at_drop_all (λ ps. row_behind (codes ", ") c.loop-ty.behind (map entity_text (parents_value ps)))
    c.args.parents.now c.loop-ty.ty-index c.loop-ty-test.false)
