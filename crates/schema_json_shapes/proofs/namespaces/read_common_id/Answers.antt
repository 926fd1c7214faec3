use Rattle.std.proofs.Common.{inl, inr, refl, sym, ap, ◌∙◌}
use Rattle.schema_json.specs.Keywords.{is_keyword_name}
use Rattle.schema_json_shapes.proofs.namespaces.read_common_id.Goals as goal

pub returns-in-Err : goal.returns-in-Err
returns-in-Err c =
    let e = c.in-Err.ensures.err in
    let same = c.in_ok-id.ensures.1.normal in
    inr (inr (
      c.in_ok-id.ensures.0.0,
      inl
          (ap is_keyword_name same ∙ e.1, c.in-Err.reserved.id, ap (λ i. i.id.text) e.0 ∙ sym same, refl),
    ))
