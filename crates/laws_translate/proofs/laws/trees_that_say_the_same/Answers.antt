use Rattle.schema_convert_plain.specs.Translation.{translated}
use Rattle.laws_translate.proofs.laws.trees_that_say_the_same.Goals as goal

pub returns : goal.returns
returns c = record {
  faults = λ tree other w h k n e. (c.faults_depend_on_what_is_said.ensures other w k n).1
      ((c.faults_depend_on_what_is_said.ensures tree w h n).0 e);
  fragments = λ tree other w h k n e.
      let also = (c.faults_depend_on_what_is_said.ensures other w k n).1
      ((c.faults_depend_on_what_is_said.ensures tree w h n).0 e) in
      c.fragments_that_say_the_same.ensures (translated tree) (translated other) w
      (c.fragments_say_what_trees_say.ensures tree w h n e)
      (c.fragments_say_what_trees_say.ensures other w k n also);
}
