use Rattle.std.proofs.Common.{◌∙◌, sym, ap}
use Rattle.schema_inclusion_types.proofs.Ties.{text_test}
use Rattle.schema_inclusion_types.proofs.names.same_word.Goals as goal

pub returns : goal.returns
returns c =
    let law = c.unreserved_ids_go_by_text.ensures in
    text_test c.eq.result c.args.a.now.id.text c.args.b.now.id.text
    (λ h. ap (λ w. w.id.text) (law.equal.0 (sym c.eq.ensures ∙ h)), λ e. c.eq.ensures ∙ law.equal.1 (law.same e))
