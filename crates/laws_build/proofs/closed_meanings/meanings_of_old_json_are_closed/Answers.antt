use Rattle.laws_build.proofs.closed_meanings.meanings_of_old_json_are_closed.Goals as goal

pub returns : goal.returns
returns c = λ text table f m says mean never uncaptured.
    c.formed_meanings_are_closed.ensures f table m (c.fragments_of_old_json_are_formed.ensures text f says) mean never
    uncaptured
