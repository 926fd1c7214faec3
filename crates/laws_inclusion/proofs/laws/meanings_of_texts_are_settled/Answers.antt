use Rattle.laws_inclusion.proofs.laws.meanings_of_texts_are_settled.Goals as goal

pub returns : goal.returns
returns c = λ text table m h.
    c.faultless_meanings_are_settled.ensures h.fragment table m
    (c.fragments_of_texts_are_well_formed.ensures text table h.fragment h.translated.0 h.translated.1)
    h.means h.faultless
