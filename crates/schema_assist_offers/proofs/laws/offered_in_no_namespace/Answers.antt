use Rattle.schema_assist_offers.proofs.Nameless.{offered_alike}
use Rattle.schema_assist_offers.proofs.laws.offered_in_no_namespace.Goals as goal

pub returns : goal.returns
returns c = λ f table role words s h. offered_alike f table words h role s
