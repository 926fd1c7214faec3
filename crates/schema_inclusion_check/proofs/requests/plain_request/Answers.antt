use Rattle.std.proofs.Common.{ap, ◌∙◌}
use Rattle.std.proofs.lemmas.Result.{IfOk-weaker}
use Rattle.cedar_identifiers.specs.Names.{components_of}
use Rattle.schema_inclusion_values.specs.Admits.{a_request}
use Rattle.schema_inclusion_values.specs.Lost.{request_with}
use Rattle.schema_inclusion_types.specs.Kinds.{plain_attrs}
use Rattle.schema_inclusion_check.specs.Parts.{action_meaning}
use Rattle.schema_inclusion_check.proofs.Pieces.{some_entries_told}
use Rattle.schema_inclusion_check.proofs.requests.plain_request.Goals as goal

pub returns : goal.returns
returns c =
    let o = action_meaning c.args.old.now in
    let p = components_of c.args.principal.now.name in
    let r = components_of c.args.resource.now.name in
    IfOk-weaker c.request.result _ _
    (λ x e m n told. e m n ∙ ap (λ es. a_request (request_with m n o p r es))
    (c.in_ok-context.ensures
    ∙ some_entries_told c.args.ids.now.rows m n told (plain_attrs c.args.old.now.context.now)))
    c.request.ensures
