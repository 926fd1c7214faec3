use Rattle.cedar_schema_theorems.proofs.fragments.texts_of_printable_fragments_say_them.Goals as goal

pub returns : goal.returns
returns c = λ f table printable orderly.
    let law = c.printable_fragments_read_back.ensures in
    (law.written f table printable orderly, law.resolves f table printable)
