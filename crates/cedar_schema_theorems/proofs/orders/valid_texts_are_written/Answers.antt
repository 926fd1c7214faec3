use Rattle.cedar_schema_theorems.proofs.orders.valid_texts_are_written.Goals as goal

pub returns : goal.returns
returns c = λ text table (m, t).
    c.translated_texts_are_written.ensures text table t.fragment t.translated.0 t.translated.1
