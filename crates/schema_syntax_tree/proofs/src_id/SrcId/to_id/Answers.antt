use Rattle.std.proofs.Common.{◌≡◌, ap, ◌∙◌}
use Rattle.cedar_identifiers.proofs.Same.{id_same}
use Rattle.cedar_identifiers.specs.Words.{is_id}
use Rattle.schema_syntax_tree.proofs.LentTexts.{id_chars}
use Rattle.schema_syntax_tree.proofs.src_id.SrcId.to_id.Goals as goal

pub invariant_of-result : goal.invariant_of-result
invariant_of-result c =
    let text : c.in_ok-from_str.field-0 ≡ c.self.inside.text.now = c.in_ok-from_str.ensures
    ∙ id_chars c.self.inside.text.now c.self.inside.word in
    record { word = ap is_id text ∙ c.self.inside.word }

pub returns : goal.returns
returns c = id_same _ _ (c.in_ok-from_str.ensures ∙ id_chars c.self.inside.text.now c.self.inside.word
    ∙ ap (λ id. id.text) c.self.view_is)
