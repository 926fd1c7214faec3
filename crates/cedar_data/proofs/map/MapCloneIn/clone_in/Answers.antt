use Rattle.std.proofs.lemmas.Grind.{common_steps}
use Rattle.std.proofs.Common.{◌≡◌, sym, ◌∙◌, subst, arith}
use Rattle.std.proofs.lemmas.List.{take_all}
use Rattle.std.specs.List.Sorted.{IsStrictlySortedBy}
use Rattle.std.specs.Map.{keys_of}
use Rattle.cedar_data.proofs.map.MapCloneIn.clone_in.Goals as goal

pub from_sorted_vec-requires : goal.from_sorted_vec-requires
from_sorted_vec-requires g c =
    let all : c.loop-entry.entries.items ≡ c.args.self.now = c.loop-entry.invariant
    ∙ take_all c.loop-entry.entry-index _ c.loop-entry-test.false ∙ c.as_slice-entry-items.ensures.entries in
    subst (λ es. IsStrictlySortedBy g.K.Ord.cmp (keys_of es)) (sym all) c.as_slice-entry-items.ensures.sorted

pub loop-entry-preserved : goal.loop-entry-preserved
loop-entry-preserved g c = grind (arith, common_steps)

pub returns : goal.returns
returns g c = grind (arith, common_steps)
