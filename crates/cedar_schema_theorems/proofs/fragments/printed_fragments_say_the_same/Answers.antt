use Rattle.cedar_schema_theorems.proofs.fragments.printed_fragments_say_the_same.Goals as goal

pub returns : goal.returns
returns c = λ closing f groups are textual.
    let law = c.printed_fragments_read_back.ensures in
    let translated = law.translated closing f groups are textual in
    (translated, law.same closing f groups are textual translated)
