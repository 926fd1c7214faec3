use Rattle.cedar_schema_theorems.proofs.Alike.{alike_means, tokens_back}
use Rattle.cedar_schema_theorems.proofs.orders.blanks_do_not_matter.Goals as goal

pub returns : goal.returns
returns c = λ text other table h m.
    let law = c.what_declares_the_same_means_the_same.ensures in (
      alike_means law.means law.faultless text other table
          (λ f warnings t. c.same_tokens_are_translated.ensures text other table f warnings h t) m,
      alike_means law.means law.faultless other text table
          (λ f warnings t. c.same_tokens_are_translated.ensures other text table f warnings (tokens_back text other h)
          t)
          m,
    )
