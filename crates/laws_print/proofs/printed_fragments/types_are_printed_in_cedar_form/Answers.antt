use Rattle.laws_print.proofs.Printed.CedarTypes.{textual_says}
use Rattle.laws_print.proofs.printed_fragments.types_are_printed_in_cedar_form.Goals as goal

pub returns : goal.returns
returns c = λ s h. textual_says s h
