use Rattle.laws_build.proofs.Closure.OldFragments.{old_formed}
use Rattle.laws_build.proofs.closed_meanings.fragments_of_old_json_are_formed.Goals as goal

pub returns : goal.returns
returns c = λ text f (d, holds, (s, is_read, made)). old_formed s f made.1
