use Rattle.std.proofs.lemmas.Grind.{common_steps}
use Rattle.std.proofs.Common.{◌≡◌, ◌++◌, ap, sym, ◌∙◌, subst, append-nil, arith}
use Rattle.std.specs.List.Sorted.{IsStrictlySortedBy}
use Rattle.std.specs.Map.{keys_of}
use Rattle.cedar_data.proofs.map.Map.from_tree.Goals as goal

pub invariant_of-result : goal.invariant_of-result
invariant_of-result g c =
    let all : c.loop-key.entries.items ≡ c.args.tree.entries = sym (append-nil _)
    ∙ ap (λ rest. c.loop-key.entries.items ++ rest) (sym c.in-None.ensures.steps.0) ∙ c.loop-key.invariant in
    subst (λ es. IsStrictlySortedBy g.K.Ord.cmp (keys_of es)) (sym all) c.len.ensures.ordered

pub loop-key-preserved : goal.loop-key-preserved
loop-key-preserved g c = grind (arith, common_steps)
