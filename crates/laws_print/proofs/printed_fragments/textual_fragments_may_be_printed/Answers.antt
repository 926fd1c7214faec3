use Rattle.laws_print.proofs.Printed.CedarProper.{fragment_proper}
use Rattle.laws_print.proofs.printed_fragments.textual_fragments_may_be_printed.Goals as goal

pub returns : goal.returns
returns c = λ f groups z textual. fragment_proper f groups z textual
