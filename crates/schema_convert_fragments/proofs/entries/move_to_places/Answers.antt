use Rattle.std.proofs.Common.{◌∙◌, arith}
use Rattle.std.proofs.lemmas.List.Sorted.{IsPermutation-trans}
use Rattle.schema_convert_fragments.proofs.entries.move_to_places.Goals as goal

pub loop-start-preserved : goal.loop-start-preserved
loop-start-preserved g c =
    let kept = c.loop-start.invariant in
    record {
      moved = IsPermutation-trans c.args.items.now.items c.loop-start.items.items c.move_round.new.items.items
          kept.moved c.move_round.ensures.moved;
      same_len = c.move_round.ensures.same_len ∙ kept.same_len;
      len = c.move_round.ensures.len ∙ kept.same_len;
      in_range = λ k d lt. omega (arith, c.move_round.ensures.in_range k d lt, kept.same_len);
    }
