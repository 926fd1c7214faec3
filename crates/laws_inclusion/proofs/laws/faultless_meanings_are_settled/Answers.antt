use Rattle.laws_inclusion.proofs.Settling.{settled}
use Rattle.laws_inclusion.proofs.laws.faultless_meanings_are_settled.Goals as goal

pub returns : goal.returns
returns c = λ f table m formed mean never. settled f table m formed mean never
