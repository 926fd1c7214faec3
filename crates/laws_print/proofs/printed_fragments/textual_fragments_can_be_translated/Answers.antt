use Rattle.laws_print.proofs.Printed.CedarSayable.{fragment_sayable}
use Rattle.laws_print.proofs.printed_fragments.textual_fragments_can_be_translated.Goals as goal

pub returns : goal.returns
returns c = λ f groups z textual. fragment_sayable f groups z textual
