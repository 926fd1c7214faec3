use Rattle.laws_build.proofs.Existence.Complete.{all_expand}
use Rattle.laws_build.proofs.existing_meanings.types_stand_for_something.Goals as goal

pub returns : goal.returns
returns g c = λ s complete. all_expand s complete
