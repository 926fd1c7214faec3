use Rattle.std.proofs.lemmas.Grind.{common_steps}
use Rattle.std.proofs.Common.{◌≡◌, sym, ◌∙◌, subst, arith}
use Rattle.std.proofs.lemmas.List.{take_all}
use Rattle.std.specs.List.Sorted.{IsStrictlySortedBy}
use Rattle.cedar_data.proofs.set.SetCloneIn.clone_in.Goals as goal

pub from_sorted_vec-requires : goal.from_sorted_vec-requires
from_sorted_vec-requires g c =
    let all : c.loop-item.items.items ≡ c.args.self.now = c.loop-item.invariant
    ∙ take_all c.loop-item.item-index _ c.loop-item-test.false ∙ c.as_slice-item-items.ensures.items in
    subst (λ es. IsStrictlySortedBy g.T.Ord.cmp es) (sym all) c.as_slice-item-items.ensures.sorted

pub loop-item-preserved : goal.loop-item-preserved
loop-item-preserved g c = grind (arith, common_steps)

pub returns : goal.returns
returns g c = grind (arith, common_steps)
