use Rattle.laws_build.proofs.Orders.Faults.{faultless_too}
use Rattle.laws_build.proofs.Orders.Meant.{means_too}
use Rattle.laws_build.proofs.rearranged_texts.what_declares_the_same_means_the_same.Goals as goal

pub returns : goal.returns
returns c = record {
  means = λ f g table m same order h. means_too f g table same order m h;
  faultless = λ f g table same never. faultless_too f g table same never;
}
