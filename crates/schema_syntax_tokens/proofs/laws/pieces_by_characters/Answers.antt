use Rattle.schema_syntax_tokens.proofs.ByCharacters.{by_characters}
use Rattle.schema_syntax_tokens.proofs.laws.pieces_by_characters.Goals as goal

pub returns : goal.returns
returns c = by_characters
