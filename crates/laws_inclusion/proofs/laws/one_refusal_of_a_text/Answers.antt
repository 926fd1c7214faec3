use Rattle.laws_inclusion.proofs.Refused.{refusal_once}
use Rattle.laws_inclusion.proofs.laws.one_refusal_of_a_text.Goals as goal

pub returns : goal.returns
returns c = λ text table e other u n m h k.
    refusal_once c.one_tree.ensures c.tree_or_error.ensures text table (c.one_error.ensures text u)
    (λ f. c.one_build_fault.ensures f table) (c.fragments_of_texts_are_in_order.ensures text table) e other n m h k
