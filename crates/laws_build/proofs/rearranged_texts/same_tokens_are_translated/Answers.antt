use Rattle.laws_build.proofs.Orders.Texts.{same_tokens_alike}
use Rattle.laws_build.proofs.rearranged_texts.same_tokens_are_translated.Goals as goal

pub returns : goal.returns
returns c = λ text other table f warnings h t.
    same_tokens_alike c.trees_are_spelled.ensures c.one_scan.ensures c.rearranged_texts_are_translated.ensures
    c.reordered_texts_are_rearranged.ensures.same text other table f warnings h t
