use Rattle.schema_build_equal.proofs.sets.are_one_set.Goals as goal

pub returns-then-are_among : goal.returns-then-are_among
returns-then-are_among g c =
    rw (← c.eq.ensures, c.if-eq.false, ← c.are_among.ensures, c.if-are_among.true) c.are_among-then-are_among.ensures
