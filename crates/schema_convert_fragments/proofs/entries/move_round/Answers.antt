use Rattle.std.proofs.Common.{◌<◌, length, sym, ◌∙◌, subst, arith}
use Rattle.std.proofs.lemmas.List.{length-set}
use Rattle.std.proofs.lemmas.List.Elements.{All-set}
use Rattle.std.proofs.lemmas.List.Sorted.{IsPermutation-swap, IsPermutation-trans, length_permutation}
use Rattle.schema_convert_fragments.proofs.entries.move_round.Goals as goal

pub loop-preserved : goal.loop-preserved
loop-preserved g c =
    let long = length c.args.items.now.items in
    let kept = c.loop.invariant in
    let from = c.index-from.result.now in
    let at_in : c.loop.at < length c.loop.places.items = omega (arith, kept.at, kept.len) in
    let from_in : from < long =
    subst (λ p. p < long) (sym c.index-from.ensures) (kept.in_range c.loop.at from at_in) in
    let swapped = IsPermutation-swap c.loop.items.items c.swap.new.self.items c.loop.at from
    (omega (arith, kept.at, kept.same_len)) (omega (arith, from_in, kept.same_len)) c.swap.ensures.items in
    record {
      at = from_in;
      moved = IsPermutation-trans c.args.items.now.items c.loop.items.items c.swap.new.self.items kept.moved swapped;
      same_len = length_permutation c.loop.items.items c.swap.new.self.items swapped ∙ kept.same_len;
      len = length-set c.loop.places.items c.loop.at c.loop.at ∙ kept.len;
      in_range = All-set (λ p. p < long) c.loop.places.items c.loop.at c.loop.at kept.at kept.in_range;
    }
