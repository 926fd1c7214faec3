use Rattle.laws_build.proofs.Closure.JsonFragments.{json_formed}
use Rattle.laws_build.proofs.closed_meanings.fragments_of_json_are_formed.Goals as goal

pub returns : goal.returns
returns c = λ text f (d, holds, shape). json_formed d f shape
