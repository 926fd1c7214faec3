use Rattle.laws_translate.proofs.Types.{type_says}
use Rattle.laws_translate.proofs.laws.types_say_what_trees_say.Goals as goal

pub returns : goal.returns
returns c = λ n t h p loc. type_says h p loc
