use Rattle.std.proofs.lemmas.Grind.{common_steps}
use Rattle.std.proofs.Common.{ap, ◌∙◌, map, arith}
use Rattle.cedar_names.specs.Definitions.{among_actions, action_of}
use Rattle.cedar_names.specs.Orders.{ids_of}
use Rattle.cedar_names.proofs.Defined.{action_sought}
use Rattle.cedar_names.proofs.all_defs.AllDefs.action_counted.Goals as goal

pub returns-clause-answer : goal.returns-clause-answer
returns-clause-answer g c =
    let uid = c.args.uid.now in
    c.is_there.ensures.there ∙ action_sought (ids_of uid.ty.name, uid.eid.0) c.as_slice.result.now
    ∙ ap (λ l. among_actions (map action_of l) (action_of uid)) c.as_slice.ensures.value
    ∙ ap (λ d. among_actions d.actions (action_of uid)) c.self.view_is

pub returns-clause-cost : goal.returns-clause-cost
returns-clause-cost g c = grind (arith, common_steps)

pub returns-clause-some : goal.returns-clause-some
returns-clause-some g c = grind (arith, common_steps)
