use Rattle.laws_plans.proofs.Answered.{tree_cases}
use Rattle.laws_plans.proofs.laws.texts_with_a_tree_are_refused_or_valid.Goals as goal

pub returns : goal.returns
returns c = tree_cases c.fragments_of_texts_are_in_order.ensures c.fragments_have_a_fault_or_a_meaning.ensures
