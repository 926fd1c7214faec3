use Rattle.std.proofs.Common.{◌≡◌, false, sym, ap, ◌∙◌}
use Rattle.std.specs.List.{list_any}
use Rattle.cedar_identifiers.specs.Words.{is_cedar}
use Rattle.cedar_identifiers.proofs.Components.{none_first}
use Rattle.cedar_identifiers.proofs.internal_name.InternalName.has_cedar.Goals as goal

pub returns-else-is_cedar : goal.returns-else-is_cedar
returns-else-is_cedar c =
    let free : is_cedar c.args.self.now.first.text ≡ false = ap is_cedar (sym c.as_str.ensures)
    ∙ (sym c.is_cedar.ensures ∙ c.if-is_cedar.false) in
    none_first is_cedar c.args.self.now.first.text c.args.self.now.others c.any_cedar.result free
    (c.any_cedar.ensures ∙ ap (list_any (λ i. is_cedar i.text)) c.as_slice.ensures)
