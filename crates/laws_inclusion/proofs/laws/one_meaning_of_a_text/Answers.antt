use Rattle.std.proofs.Common.{◌≡◌, sym, ap, ◌∙◌, subst}
use Rattle.schema_build.specs.Meaning.{FragmentMeaning}
use Rattle.schema_convert_plain.specs.Translation.{translated}
use Rattle.laws_inclusion.proofs.laws.one_meaning_of_a_text.Goals as goal

pub returns : goal.returns
returns c = λ text table m n h k.
    let p = h.translated.1 in
    let q = k.translated.1 in
    let same = p.2.is ∙ ap translated (c.one_tree.ensures text p.0 q.0 p.1 q.1) ∙ sym q.2.is in
    c.one_fragment_meaning.ensures h.fragment table m n h.means
    (subst (λ f. FragmentMeaning f table n) (sym same) k.means)
