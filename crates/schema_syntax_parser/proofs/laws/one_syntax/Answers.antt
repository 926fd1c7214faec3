use Rattle.schema_syntax_parser.proofs.Back.{one_syntax}
use Rattle.schema_syntax_parser.proofs.laws.one_syntax.Goals as goal

pub returns : goal.returns
returns c = one_syntax
