use Rattle.laws_translate.proofs.MeantProper.{meaning_proper}
use Rattle.laws_translate.proofs.laws.meanings_may_be_printed.Goals as goal

pub returns : goal.returns
returns c = λ m h. meaning_proper m h
