use Rattle.std.proofs.Common.{ap, ◌∙◌, map}
use Rattle.cedar_identifiers.specs.Names.{components_of}
use Rattle.cedar_names.specs.Definitions.{among_actions, action_of}
use Rattle.cedar_names.specs.Orders.{ids_of}
use Rattle.cedar_names.proofs.Defined.{action_sought}
use Rattle.cedar_names.proofs.all_defs.AllDefs.is_defined_as_action_named.Goals as goal

pub returns : goal.returns
returns c =
    let ty = c.args.ty.now in
    let id = c.args.id.now in
    c.is_there.ensures.there ∙ action_sought (ids_of ty, id) c.as_slice.result.now
    ∙ ap (λ l. among_actions (map action_of l) (components_of ty, id)) c.as_slice.ensures.value
    ∙ ap (λ d. among_actions d.actions (components_of ty, id)) c.self.view_is
