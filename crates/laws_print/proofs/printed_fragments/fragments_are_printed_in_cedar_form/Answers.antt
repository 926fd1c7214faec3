use Rattle.laws_print.proofs.Printed.CedarFragments.{fragment_says}
use Rattle.laws_print.proofs.printed_fragments.fragments_are_printed_in_cedar_form.Goals as goal

pub returns : goal.returns
returns c = λ f groups z textual. fragment_says f groups z textual
