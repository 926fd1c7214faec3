use Rattle.std.proofs.Common.{ap, sym, ◌∙◌}
use Rattle.std.specs.Option.{option_copied, option_map}
use Rattle.std.proofs.lemmas.Result.{IfOk-weaker}
use Rattle.cedar_identifiers.specs.Names.{components_of}
use Rattle.schema_inclusion_values.specs.Admits.{a_request}
use Rattle.schema_inclusion_values.specs.Lost.{lost_request_to}
use Rattle.schema_inclusion_check.specs.Parts.{action_meaning}
use Rattle.schema_inclusion_check.proofs.requests.lost_to.Goals as goal

pub returns-in-None : goal.returns-in-None
returns-in-None c =
    let o = action_meaning c.args.old.now in
    let p = components_of c.args.principal.now.name in
    let r = components_of c.args.resource.now.name in
    IfOk-weaker c.first_request.result _ _
    (λ found e m n told. e m n told
    ∙ ap (λ s. option_map a_request (lost_request_to m n o p r (option_map action_meaning (option_copied s))))
    (sym c.in-None.is))
    c.first_request.ensures
