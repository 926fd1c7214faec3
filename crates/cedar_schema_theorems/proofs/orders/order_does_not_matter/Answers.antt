use Rattle.cedar_schema_theorems.proofs.orders.order_does_not_matter.Goals as goal

pub returns : goal.returns
returns c = record {
  items = λ text other table w v h k r.
      c.rearranged_texts_mean_the_same.ensures text other table w v h k
      (c.reordered_texts_are_rearranged.ensures.items w v r);
  declarations = λ text other table w v h k r.
      c.rearranged_texts_mean_the_same.ensures text other table w v h k
      (c.reordered_texts_are_rearranged.ensures.declarations w v r);
}
