use Rattle.schema_syntax.proofs.OneFault.{faulty_or_sentence_from}
use Rattle.schema_syntax.proofs.laws.faulty_or_sentence.Goals as goal

pub returns : goal.returns
returns c = faulty_or_sentence_from c.one_scan.ensures
