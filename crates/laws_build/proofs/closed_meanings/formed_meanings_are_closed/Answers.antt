use Rattle.laws_build.proofs.Closure.Closing.{formed_closed, closed_filled}
use Rattle.laws_build.proofs.closed_meanings.formed_meanings_are_closed.Goals as goal

pub returns : goal.returns
returns c = λ f table m is_formed mean never uncaptured.
    (closed_filled table m, formed_closed f table m is_formed mean never uncaptured)
