use Rattle.laws_syntax.proofs.Sites.OneReading.{one_reading}
use Rattle.laws_syntax.proofs.site_tokens.one_reading.Goals as goal

pub returns : goal.returns
returns c = one_reading
