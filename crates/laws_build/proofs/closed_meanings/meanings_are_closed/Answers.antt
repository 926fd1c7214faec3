use Rattle.laws_build.proofs.Closure.Closing.{closed}
use Rattle.laws_build.proofs.closed_meanings.meanings_are_closed.Goals as goal

pub returns : goal.returns
returns c = λ f table m formed mean never uncaptured. closed f table m formed mean never uncaptured
