use Rattle.laws_build.proofs.Orders.Rearranging.{reordered_items, reordered_within, divided_items, rearranged_back}
use Rattle.laws_build.proofs.Orders.Rearranging.{rearranged_itself}
use Rattle.laws_build.proofs.rearranged_texts.reordered_texts_are_rearranged.Goals as goal

pub returns : goal.returns
returns c = record {
  items = λ w v r. reordered_items w v r;
  declarations = λ w v r. reordered_within w v r;
  divided = λ w v d. divided_items w v d;
  back = λ w v r. rearranged_back w v r;
  same = λ w. rearranged_itself w;
}
