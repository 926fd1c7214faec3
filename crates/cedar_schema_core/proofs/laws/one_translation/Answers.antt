use Rattle.std.proofs.Common.{sym, ap, ◌∙◌}
use Rattle.schema_convert_plain.specs.Translation.{translated}
use Rattle.schema_convert_faults.specs.Shadowings.{shadowings}
use Rattle.cedar_schema_core.proofs.laws.one_translation.Goals as goal

pub returns : goal.returns
returns c = λ text table f g v w h k.
    let same = c.one_tree.ensures text h.0 k.0 h.1 k.1 in
    (h.2.is ∙ ap translated same ∙ sym k.2.is, h.2.warned ∙ ap (λ t. shadowings t table) same ∙ sym k.2.warned)
