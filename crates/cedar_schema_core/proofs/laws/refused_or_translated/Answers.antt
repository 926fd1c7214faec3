use Rattle.cedar_schema_core.proofs.Refused.{not_both}
use Rattle.cedar_schema_core.proofs.laws.refused_or_translated.Goals as goal

pub returns : goal.returns
returns c = not_both c.one_tree.ensures c.tree_or_error.ensures
