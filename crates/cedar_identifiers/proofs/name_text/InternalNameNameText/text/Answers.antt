use Rattle.std.proofs.Common.{◌≡◌, ◌∷◌, ◌++◌, ap, ◌∙◌, append_assoc, codes}
use Rattle.std.proofs.lemmas.List.{take_all}
use Rattle.cedar_data.specs.Rows.{joined_by}
use Rattle.cedar_identifiers.specs.Names.{texts_of}
use Rattle.cedar_identifiers.proofs.Joins.{one_more, separator_chars}
use Rattle.cedar_identifiers.proofs.name_text.InternalNameNameText.text.Goals as goal

pub loop-id-preserved : goal.loop-id-preserved
loop-id-preserved c =
    let first : c.push_str.new.self ≡ c.loop-id.text ++ codes "::" = c.in_ok-push_str.ensures.ok
    ∙ ap (λ s. c.loop-id.text ++ s) separator_chars in
    c.in_ok-push_text.ensures.ok ∙ (ap (λ t. t ++ c.id-item.result.text) first
    ∙ (append_assoc c.loop-id.text (codes "::") c.id-item.result.text ∙
    one_more c.args.self.now.first c.id-item.result _ c.loop-id.id-index c.loop-id.text c.loop-id-test.true
    c.id-item.is c.loop-id.invariant))

pub returns : goal.returns
returns c = record {
  text = c.loop-id.invariant ∙ ap (λ ids. joined_by (codes "::") (texts_of (c.args.self.now.first ∷ ids)))
      (take_all c.loop-id.id-index _ c.loop-id-test.false ∙ c.as_slice-id-items.ensures);
}
