use Rattle.cedar_schema_core.proofs.OneRefusal.{refusal_once}
use Rattle.cedar_schema_core.proofs.laws.one_refusal.Goals as goal

pub returns : goal.returns
returns c = λ text table e other u.
    refusal_once c.one_tree.ensures c.tree_or_error.ensures c.one_error.ensures c.one_translation.ensures
    c.refused_or_translated.ensures c.one_fragment_meaning.ensures c.one_build_fault.ensures text u table e other
