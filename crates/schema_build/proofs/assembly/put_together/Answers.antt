use Rattle.std.proofs.lemmas.Grind.{common_steps}
use Rattle.std.proofs.Common.{map, map-id, ap, sym, ◌∙◌, rules, arith}
use Rattle.std.proofs.lemmas.Iterator.{YieldsList-from_zip}
use Rattle.std.proofs.lemmas.Iterator.Adapters.{YieldsList-from_vec}
use Rattle.std.proofs.lemmas.Iterator.Consumers.{YieldsList-at, YieldsList-end}
use Rattle.schema_build.proofs.assembly.put_together.Goals as goal

pub returns : goal.returns
returns g c =
    let road = YieldsList-at c.into_iter-parts-iterator.ensures.into_iter_gives
    (YieldsList-from_zip (YieldsList-at c.zip-parts-items.ensures.first
    (YieldsList-from_zip (YieldsList-at c.zip.ensures.first
    (YieldsList-from_vec c.args.entries.items c.into_iter.ensures.rest (search rules)))
    (YieldsList-from_vec c.args.ancestors.items c.zip.ensures.second.0 (search rules))))
    (YieldsList-from_vec c.args.kinds.items c.zip-parts-items.ensures.second.0 (search rules))) in
    let end = YieldsList-end road c.loop-parts.yielded c.loop-parts.parts-iterator c.loop-parts.yielded_by
    c.next.result c.next.new.self c.in-None.is c.next.ensures.steps in
    c.loop-parts.invariant ∙ ap (map g.B.Assembled.assembly) (sym (map-id c.loop-parts.yielded) ∙ end.0)

pub loop-parts-preserved : goal.loop-parts-preserved
loop-parts-preserved g c = grind (arith, common_steps)
