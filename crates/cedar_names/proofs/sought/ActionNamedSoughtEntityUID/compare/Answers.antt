use Rattle.std.proofs.Common.{ap, sym, ◌∙◌}
use Rattle.std.specs.Ordering.{ordering_then}
use Rattle.cedar_data.specs.Text.{text_cmp}
use Rattle.cedar_names.proofs.sought.ActionNamedSoughtEntityUID.compare.Goals as goal

pub returns-in-Equal : goal.returns-in-Equal
returns-in-Equal c =
    let by_type = sym c.in-Equal.is ∙ c.cmp.ensures in
    c.cmp-in-Equal.ensures
    ∙ ap (λ o. ordering_then o (text_cmp c.args.item.now.eid.0 c.args.self.now.id.now)) by_type
