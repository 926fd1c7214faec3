use Rattle.schema_syntax_tokens.proofs.OneString.{one_string, stands_for_text}
use Rattle.schema_syntax_tokens.proofs.laws.quoted_is_one_string.Goals as goal

pub returns-clause-token : goal.returns-clause-token
returns-clause-token c = one_string

pub returns-clause-value : goal.returns-clause-value
returns-clause-value c = stands_for_text
