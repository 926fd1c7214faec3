use Rattle.schema_build.proofs.DeclaredOnce.{commons_are, entities_are, actions_are}
use Rattle.schema_build.proofs.OneFault.{fault_once}
use Rattle.schema_build.proofs.laws.one_build_fault.Goals as goal

pub returns : goal.returns
returns c = λ f table e other order h k.
    fault_once f table (commons_are f order) (entities_are f order) (actions_are f order) e other h k
