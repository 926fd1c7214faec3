use Rattle.laws_print.proofs.Printable.Grouping.{groups_written}
use Rattle.laws_print.proofs.printable_fragments.printable_fragments_are_written_in_groups.Goals as goal

pub returns : goal.returns
returns c = λ f table printable. groups_written f table printable
