use Rattle.schema_build_text.proofs.Meant.{meaning_back}
use Rattle.schema_build_text.proofs.laws.meanings_are_read_back.Goals as goal

pub returns : goal.returns
returns c = meaning_back
