use Rattle.std.proofs.Common.{ap, ◌∙◌, map}
use Rattle.cedar_identifiers.specs.Names.{components_of}
use Rattle.cedar_names.specs.Definitions.{among}
use Rattle.cedar_names.specs.Orders.{ids_of}
use Rattle.cedar_names.proofs.Defined.{name_sought}
use Rattle.cedar_names.proofs.all_defs.AllDefs.is_defined_as_entity.Goals as goal

pub returns : goal.returns
returns c =
    let name = c.args.name.now in
    c.is_there.ensures.there ∙ name_sought (ids_of name) c.as_slice.result.now
    ∙ ap (λ l. among (map components_of l) (components_of name)) c.as_slice.ensures.value
    ∙ ap (λ d. among d.entities (components_of name)) c.self.view_is
