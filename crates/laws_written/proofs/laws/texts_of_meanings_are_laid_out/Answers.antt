use Rattle.laws_written.proofs.MeantSchemas.{schema_laid}
use Rattle.laws_written.proofs.laws.texts_of_meanings_are_laid_out.Goals as goal

pub returns : goal.returns
returns c = schema_laid
