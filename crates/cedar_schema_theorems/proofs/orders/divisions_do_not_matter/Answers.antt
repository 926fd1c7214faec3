use Rattle.cedar_schema_theorems.proofs.orders.divisions_do_not_matter.Goals as goal

pub returns : goal.returns
returns c = λ text other table w v h k d.
    c.rearranged_texts_mean_the_same.ensures text other table w v h k
    (c.reordered_texts_are_rearranged.ensures.divided w v d)
