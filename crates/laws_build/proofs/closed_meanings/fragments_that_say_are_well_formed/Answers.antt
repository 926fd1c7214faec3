use Rattle.laws_build.proofs.Closure.SaidFragments.{well_formed}
use Rattle.laws_build.proofs.closed_meanings.fragments_that_say_are_well_formed.Goals as goal

pub returns : goal.returns
returns c = λ f w says sayable chosen. well_formed f w says sayable chosen
