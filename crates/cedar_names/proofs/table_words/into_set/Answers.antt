use Rattle.std.proofs.lemmas.Grind.{common_steps}
use Rattle.std.proofs.Common.{◌≡◌, ◌++◌, ap, sym, ◌∙◌, append-nil, arith}
use Rattle.cedar_names.proofs.table_words.into_set.Goals as goal

pub from_sorted_vec-requires : goal.from_sorted_vec-requires
from_sorted_vec-requires c =
    let all : c.loop-id.items.items ≡ c.args.seen.keys = sym (append-nil _)
    ∙ ap (λ rest. c.loop-id.items.items ++ rest) (sym c.in-None.ensures.steps.0) ∙ c.loop-id.invariant in
    rw all c.len.ensures.ordered

pub loop-id-preserved : goal.loop-id-preserved
loop-id-preserved c = grind (arith, common_steps)
