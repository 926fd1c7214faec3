use Rattle.laws_translate.proofs.MeantWritten.{is_written, written_is}
use Rattle.laws_translate.proofs.laws.namespaces_of_meanings_are_written.Goals as goal

pub returns : goal.returns
returns c = record { of = λ m q w e. written_is m q w e; all = λ m n h k. is_written m n h k }
