use Rattle.laws_build.proofs.Orders.Ordered.{in_order}
use Rattle.laws_build.proofs.Orders.Saying.{declare_the_same, sayable_too}
use Rattle.laws_build.proofs.rearranged_texts.rearranged_texts_declare_the_same.Goals as goal

pub returns : goal.returns
returns c = record {
  sayable = λ w v r s. sayable_too w v r s;
  declare = λ f g w v h k r s. declare_the_same c.fragments_that_say_the_same.ensures f g w v h k r s;
  ordered = λ f w says. in_order f w says;
}
