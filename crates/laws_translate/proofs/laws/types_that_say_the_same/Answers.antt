use Rattle.laws_translate.proofs.Same.{same_type}
use Rattle.laws_translate.proofs.laws.types_that_say_the_same.Goals as goal

pub returns : goal.returns
returns c = λ s r t h k. same_type t s r h k
