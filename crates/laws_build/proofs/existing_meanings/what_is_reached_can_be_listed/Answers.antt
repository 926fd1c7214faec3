use Rattle.laws_build.proofs.Existence.Rising.{reached_by_test}
use Rattle.laws_build.proofs.existing_meanings.what_is_reached_can_be_listed.Goals as goal

pub returns : goal.returns
returns g c = λ edge targets order within total exact. reached_by_test edge targets order within total exact
