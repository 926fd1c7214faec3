use Rattle.cedar_schema_core.proofs.laws.canonical_texts_mean_the_same.Goals as goal

pub returns : goal.returns
returns c = λ closing text table m t. c.texts_of_closed_meanings_mean_them.ensures closing table m
    (c.meanings_of_texts_are_closed.ensures text table t.fragment t.translated.0 m t.translated.1 t.means t.faultless
    t.uncaptured)
