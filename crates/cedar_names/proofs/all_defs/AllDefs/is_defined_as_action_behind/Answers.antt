use Rattle.std.proofs.Common.{ap, ◌∙◌, ◌++◌, ◌∷◌, [], map}
use Rattle.cedar_identifiers.specs.Names.{components_of}
use Rattle.cedar_names.specs.Definitions.{among_actions, action_of}
use Rattle.cedar_names.specs.Orders.{ids_behind}
use Rattle.cedar_names.proofs.Defined.{action_sought, texts_behind}
use Rattle.cedar_names.proofs.all_defs.AllDefs.is_defined_as_action_behind.Goals as goal

pub returns : goal.returns
returns c =
    let namespace = c.args.namespace.now in
    let last = c.args.last.now in
    let id = c.args.id.now in
    c.is_there.ensures.there ∙ action_sought (ids_behind namespace last, id) c.as_slice.result.now
    ∙ (λ i. among_actions (map action_of (c.as_slice.ensures.value i)) (texts_behind namespace last i, id))
    ∙ ap (λ d. among_actions d.actions (components_of namespace ++ last.text ∷ [], id)) c.self.view_is
