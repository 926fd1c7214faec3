use Rattle.laws_build.proofs.Said.Expanding.{type_expands}
use Rattle.laws_build.proofs.said_meanings.types_said_of_meanings_expand.Goals as goal

pub returns : goal.returns
returns c = λ s ns t p h o means. type_expands s ns p t h o means
