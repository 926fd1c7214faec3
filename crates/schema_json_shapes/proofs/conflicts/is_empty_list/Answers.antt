use Rattle.std.proofs.Common.{◌≡◌, length, nat_eq, arith, sym, ap, ◌∙◌}
use Rattle.serde_json.specs.View.{view}
use Rattle.serde_json.proofs.Views.{view-Array}
use Rattle.schema_json_shapes.specs.Walk.{is_empty_list}
use Rattle.schema_json_shapes.proofs.Beside.{len_zero}
use Rattle.schema_json_shapes.proofs.conflicts.is_empty_list.Goals as goal

pub returns-in-Array : goal.returns-in-Array
returns-in-Array c =
    let e : c.len.result ≡ length c.in-Array.items.items = omega arith in
    ap (λ n. nat_eq n 0) e ∙ len_zero c.in-Array.items.items
    ∙ ap is_empty_list (sym (ap view c.in-Array.is ∙ view-Array c.in-Array.items))
