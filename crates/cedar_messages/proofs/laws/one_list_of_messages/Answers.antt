use Rattle.cedar_messages.proofs.Framing.{one_list}
use Rattle.cedar_messages.proofs.laws.one_list_of_messages.Goals as goal

pub returns : goal.returns
returns c = one_list
