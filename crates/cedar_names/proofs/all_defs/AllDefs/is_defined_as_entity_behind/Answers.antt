use Rattle.std.proofs.Common.{ap, ◌∙◌, ◌++◌, ◌∷◌, [], map}
use Rattle.cedar_identifiers.specs.Names.{components_of}
use Rattle.cedar_names.specs.Definitions.{among}
use Rattle.cedar_names.specs.Orders.{ids_behind}
use Rattle.cedar_names.proofs.Defined.{name_sought, texts_behind}
use Rattle.cedar_names.proofs.all_defs.AllDefs.is_defined_as_entity_behind.Goals as goal

pub returns : goal.returns
returns c =
    let namespace = c.args.namespace.now in
    let last = c.args.last.now in
    c.is_there.ensures.there ∙ name_sought (ids_behind namespace last) c.as_slice.result.now
    ∙ (λ i. among (map components_of (c.as_slice.ensures.value i)) (texts_behind namespace last i))
    ∙ ap (λ d. among d.entities (components_of namespace ++ last.text ∷ [])) c.self.view_is
