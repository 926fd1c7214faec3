use Rattle.schema_assist_offers.proofs.Referred.{meant_alike}
use Rattle.schema_assist_offers.proofs.laws.meant_as_references_are.Goals as goal

pub returns : goal.returns
returns c = meant_alike
