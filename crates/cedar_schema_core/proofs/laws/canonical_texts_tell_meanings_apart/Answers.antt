use Rattle.cedar_schema_core.proofs.Canonical.{told_apart}
use Rattle.cedar_schema_core.proofs.laws.canonical_texts_tell_meanings_apart.Goals as goal

pub returns : goal.returns
returns c = told_apart c.one_text_meaning.ensures c.canonical_texts_mean_the_same.ensures
