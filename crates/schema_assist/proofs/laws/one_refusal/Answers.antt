use Rattle.schema_assist.proofs.Refusals.{one_reason}
use Rattle.schema_assist.proofs.laws.one_refusal.Goals as goal

pub returns : goal.returns
returns c = one_reason c.one_partial_word.ensures c.one_syntax_fault.ensures
