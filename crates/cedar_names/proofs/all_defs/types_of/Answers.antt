use Rattle.std.proofs.lemmas.Grind.{common_steps}
use Rattle.std.proofs.Common.{◌∙◌, ◌||◌, ap, arith}
use Rattle.cedar_identifiers.specs.Names.{components_of}
use Rattle.cedar_names.specs.Definitions.{same_name}
use Rattle.cedar_names.proofs.Defined.{type_more}
use Rattle.cedar_names.proofs.all_defs.types_of.Goals as goal

pub loop-action-preserved : goal.loop-action-preserved
loop-action-preserved c = λ n.
    let l = c.loop-action in
    c.in_ok-add_type.ensures n ∙ ap (λ b. b || same_name n (components_of c.action-item.result.ty.name))
    (l.invariant n) ∙ type_more c.args.actions.now l.action-index c.action-item.result n c.loop-action-test.true
    c.action-item.is

pub returns : goal.returns
returns c = grind (arith, common_steps)
