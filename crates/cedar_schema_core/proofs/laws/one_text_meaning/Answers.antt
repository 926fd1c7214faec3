use Rattle.std.proofs.Common.{sym, subst}
use Rattle.schema_build.specs.Meaning.{FragmentMeaning}
use Rattle.cedar_schema_core.proofs.laws.one_text_meaning.Goals as goal

pub returns : goal.returns
returns c = λ text table m n h k.
    let same = (c.one_translation.ensures text table h.fragment k.fragment h.translated.0 k.translated.0
    h.translated.1 k.translated.1).0 in
    c.one_fragment_meaning.ensures h.fragment table m n h.means
    (subst (λ f. FragmentMeaning f table n) (sym same) k.means)
