use Rattle.cedar_schema_theorems.proofs.Alike.{alike_means}
use Rattle.cedar_schema_theorems.proofs.orders.rearranged_texts_mean_the_same.Goals as goal

pub returns : goal.returns
returns c = λ text other table w v h k r m.
    let law = c.what_declares_the_same_means_the_same.ensures in
    let translate = c.rearranged_texts_are_translated.ensures in (
      alike_means law.means law.faultless text other table
          (λ f warnings t. translate text other table w v f warnings h k r t) m,
      alike_means law.means law.faultless other text table
          (λ f warnings t. translate other text table v w f warnings k h
          (c.reordered_texts_are_rearranged.ensures.back w v r) t) m,
    )
