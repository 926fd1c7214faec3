use Rattle.laws_written.proofs.ReadingNotes.{read_notes}
use Rattle.laws_written.proofs.laws.spelled_notes_are_read.Goals as goal

pub returns : goal.returns
returns c = λ source u written notes h a ts s. read_notes source c.one_value.ensures.value_or_bad h a ts s
