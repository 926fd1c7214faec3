use Rattle.std.proofs.Common.{refl}
use Rattle.json.specs.Print.{escape_byte}
use Rattle.schema_json_quotes.proofs.quotes.escape_text.Goals as goal

pub returns-in-12 : goal.returns-in-12
unfolding escape_byte
returns-in-12 c = rw c.in-12.is (refl, refl)
