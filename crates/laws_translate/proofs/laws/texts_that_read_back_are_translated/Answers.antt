use Rattle.laws_translate.proofs.laws.texts_that_read_back_are_translated.Goals as goal

pub returns : goal.returns
returns c = λ text w r n s.
    let lawful = (c.faults_depend_on_what_is_said.ensures r.tree w r.says n).1 s in
    record { reads = r; lawful = lawful; says = c.fragments_say_what_trees_say.ensures r.tree w r.says n lawful }
