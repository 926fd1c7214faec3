use Rattle.schema_assist_words.proofs.FrontOrFault.{front_or_fault}
use Rattle.schema_assist_words.proofs.laws.front_or_refusal.Goals as goal

pub returns : goal.returns
returns c = front_or_fault c.one_scan.ensures c.viable_fronts.ensures c.one_partial_word.ensures
