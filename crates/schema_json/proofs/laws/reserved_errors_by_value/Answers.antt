use Rattle.std.proofs.Common.{ap}
use Rattle.schema_json.proofs.laws.reserved_errors_by_value.Goals as goal

pub returns : goal.returns
returns c =
    let ids = c.unreserved_ids_go_by_text.ensures.equal in
    (λ h i. record { id = ids.0 h i }, λ e. ids.1 (ap (λ x. x.id) e))
