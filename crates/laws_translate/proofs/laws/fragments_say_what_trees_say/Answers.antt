use Rattle.laws_translate.proofs.Fragments.{fragment_says}
use Rattle.laws_translate.proofs.laws.fragments_say_what_trees_say.Goals as goal

pub returns : goal.returns
returns c = λ tree w h k e. fragment_says tree w h k ((c.lawful_trees.ensures tree).0 e)
