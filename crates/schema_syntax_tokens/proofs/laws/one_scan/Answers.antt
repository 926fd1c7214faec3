use Rattle.schema_syntax_tokens.proofs.Unique.{one_scan}
use Rattle.schema_syntax_tokens.proofs.laws.one_scan.Goals as goal

pub returns : goal.returns
returns c = one_scan
