use Rattle.std.proofs.lemmas.Result.{IfOk-weaker}
use Rattle.schema_assist.specs.Plans.{its_own}
use Rattle.schema_assist.proofs.Plans.{known_of_refused}
use Rattle.schema_assist.proofs.run.known_from.Goals as goal

pub returns-in-Ok : goal.returns-in-Ok
returns-in-Ok c = its_own c.in-Ok.known (c.in-Ok.field-0-1.items, c.in-Ok.ensures.translation)

pub returns : goal.returns
returns c =
    IfOk-weaker c.known_without.result _ _ (λ known h.
    known_of_refused c.args.text.now c.args.table.now c.in-Err.errors known c.in-Err.ensures.refusal h.0 h.1)
    c.known_without.ensures
