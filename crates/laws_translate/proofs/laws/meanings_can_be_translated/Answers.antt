use Rattle.laws_translate.proofs.MeantSayable.{meaning_sayable}
use Rattle.laws_translate.proofs.laws.meanings_can_be_translated.Goals as goal

pub returns : goal.returns
returns c = λ m h. meaning_sayable m h
