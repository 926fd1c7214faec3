use Rattle.laws_translate.proofs.SameFragments.{fragment_same}
use Rattle.laws_translate.proofs.laws.fragments_that_say_the_same.Goals as goal

pub returns : goal.returns
returns c = λ f g w h k. fragment_same f g w h k
