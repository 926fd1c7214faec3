use Rattle.laws_build.proofs.Existence.Meanings.{faultless_means}
use Rattle.laws_build.proofs.existing_meanings.faultless_fragments_mean_something.Goals as goal

pub returns : goal.returns
returns c = λ f table order never. faultless_means f table c.types_stand_for_one.ensures order never
