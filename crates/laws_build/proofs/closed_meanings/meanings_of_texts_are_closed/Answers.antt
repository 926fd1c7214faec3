use Rattle.laws_build.proofs.closed_meanings.meanings_of_texts_are_closed.Goals as goal

pub returns : goal.returns
returns c = λ text table f warnings m t mean never uncaptured.
    c.meanings_are_closed.ensures f table m (c.fragments_of_texts_are_well_formed.ensures text table f warnings t) mean
    never uncaptured
