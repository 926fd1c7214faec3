use Rattle.laws_build.proofs.Orders.Texts.{translated_alike}
use Rattle.laws_build.proofs.rearranged_texts.rearranged_texts_are_translated.Goals as goal

pub returns : goal.returns
returns c = λ text other table w v f warnings h k r t.
    translated_alike c.syntax_is_sentence.ensures c.spelled_schemas_are_read.ensures c.one_tree.ensures
    c.fragments_say_what_trees_say.ensures
    (λ tree w h k e. (c.faults_depend_on_what_is_said.ensures tree w h k).0 e)
    (λ tree w h k s. (c.faults_depend_on_what_is_said.ensures tree w h k).1 s)
    c.rearranged_texts_declare_the_same.ensures.sayable c.rearranged_texts_declare_the_same.ensures.declare
    c.rearranged_texts_declare_the_same.ensures.ordered text other table w v f warnings h k r t
