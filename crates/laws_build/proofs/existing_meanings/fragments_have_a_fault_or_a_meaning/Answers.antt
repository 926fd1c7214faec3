use Rattle.laws_build.proofs.Existence.DecidedFaults.{fault_or_meaning}
use Rattle.laws_build.proofs.existing_meanings.fragments_have_a_fault_or_a_meaning.Goals as goal

pub returns : goal.returns
returns c = λ f table order. fault_or_meaning f table c.types_stand_for_one.ensures order
