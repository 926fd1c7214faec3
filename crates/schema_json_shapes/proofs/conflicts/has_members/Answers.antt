use Rattle.std.proofs.Common.{◌≡◌, length, nat_eq, not, arith, sym, ap, ◌∙◌}
use Rattle.serde_json.specs.View.{view}
use Rattle.serde_json.proofs.Views.{view-Object}
use Rattle.schema_json_shapes.specs.Walk.{has_members}
use Rattle.schema_json_shapes.proofs.Beside.{len_positive}
use Rattle.schema_json_shapes.proofs.conflicts.has_members.Goals as goal

pub returns-in-Object : goal.returns-in-Object
returns-in-Object c =
    let e : c.len.result ≡ length c.in-Object.members.entries = omega arith in
    ap (λ n. not (nat_eq n 0)) e ∙ len_positive c.in-Object.members.entries
    ∙ ap has_members (sym (ap view c.in-Object.is ∙ view-Object c.in-Object.members))
