use Rattle.laws_print.proofs.Printable.Printables.{printable_textual}
use Rattle.laws_print.proofs.printable_fragments.printable_fragments_are_textual.Goals as goal

pub returns : goal.returns
returns c = λ f table printable orderly. printable_textual f table printable orderly
