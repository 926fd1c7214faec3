use Rattle.std.proofs.Common.{Some, cond, ap, sym, ◌∙◌}
use Rattle.std.specs.Option.{option_map}
use Rattle.std.proofs.lemmas.Result.{IfOk-weaker}
use Rattle.cedar_identifiers.specs.Names.{components_of}
use Rattle.schema_inclusion_values.specs.Admits.{a_request}
use Rattle.schema_inclusion_values.specs.Lost.{request_with, some_context, lost_request_between}
use Rattle.schema_inclusion_check.specs.Parts.{action_meaning}
use Rattle.schema_inclusion_check.proofs.requests.lost_to_declared.Goals as goal

pub returns-then-new : goal.returns-then-new
returns-then-new c =
    let o = action_meaning c.args.old.now in
    let k = action_meaning c.args.new.now in
    let p = components_of c.args.principal.now.name in
    let r = components_of c.args.resource.now.name in
    IfOk-weaker c.first_request.result _ _
    (λ found e m n told. e m n told
    ∙ ap (λ b. option_map a_request (cond b (Some (request_with m n o p r (some_context m n o)))
    (lost_request_between m n o k p r))) (sym c.if-new.true))
    c.first_request.ensures

pub returns-else-new : goal.returns-else-new
returns-else-new c =
    let o = action_meaning c.args.old.now in
    let k = action_meaning c.args.new.now in
    let p = components_of c.args.principal.now.name in
    let r = components_of c.args.resource.now.name in
    IfOk-weaker c.lost_between.result _ _
    (λ found e m n told. e m n told
    ∙ ap (λ b. option_map a_request (cond b (Some (request_with m n o p r (some_context m n o)))
    (lost_request_between m n o k p r))) (sym c.if-new.false))
    c.lost_between.ensures
