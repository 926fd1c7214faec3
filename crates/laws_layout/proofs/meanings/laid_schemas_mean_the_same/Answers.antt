use Rattle.laws_layout.proofs.meanings.laid_schemas_mean_the_same.Goals as goal

pub returns-clause-plain : goal.returns-clause-plain
returns-clause-plain c = λ old new table tree laid.
    c.same_pieces_mean_the_same.ensures old new table (c.laid_schemas_stay.ensures.pieces old new tree laid)

pub returns-clause-kept : goal.returns-clause-kept
returns-clause-kept c = λ old new table tree laid.
    c.same_pieces_mean_the_same.ensures old new table (c.kept_schemas_stay.ensures.pieces old new tree laid)
