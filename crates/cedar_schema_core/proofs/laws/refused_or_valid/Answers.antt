use Rattle.cedar_schema_core.proofs.Refusals.{refused_invalid}
use Rattle.cedar_schema_core.proofs.laws.refused_or_valid.Goals as goal

pub returns : goal.returns
returns c = refused_invalid c.one_translation.ensures c.refused_or_translated.ensures c.one_fragment_meaning.ensures
