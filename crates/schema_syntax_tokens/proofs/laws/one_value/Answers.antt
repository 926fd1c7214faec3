use Rattle.schema_syntax_tokens.proofs.Values.{one_value, value_or_bad, one_bad}
use Rattle.schema_syntax_tokens.proofs.laws.one_value.Goals as goal

pub returns-clause-value : goal.returns-clause-value
returns-clause-value c = one_value

pub returns-clause-value_or_bad : goal.returns-clause-value_or_bad
returns-clause-value_or_bad c = value_or_bad

pub returns-clause-bad : goal.returns-clause-bad
returns-clause-bad c = one_bad
