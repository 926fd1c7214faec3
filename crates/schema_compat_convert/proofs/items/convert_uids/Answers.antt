use Rattle.std.proofs.lemmas.Grind.{common_steps}
use Rattle.std.proofs.Common.{◌≡◌, [], length, sym, ◌∙◌, arith}
use Rattle.std.specs.List.{AllZip}
use Rattle.std.specs.Vec.Iter.{into_iter_items}
use Rattle.schema_compat_convert.specs.Converted.{UidBecomes}
use Rattle.schema_compat_convert.proofs.Ahead.{none_ahead}
use Rattle.schema_compat_convert.proofs.items.convert_uids.Goals as goal

pub returns : goal.returns
returns c =
    let over : length (into_iter_items c.loop-uid.uid-iterator) ≡ 0 = sym c.loop-uid.uid-iterator.rest.ok.0
    ∙ c.in-None.ensures.steps.0 in
    (none_ahead (λ u. []) (AllZip UidBecomes) _ c.args.uids c.loop-uid.out c.loop-uid.invariant.ahead over tt).1

pub loop-uid-preserved : goal.loop-uid-preserved
loop-uid-preserved c = record {
  ahead = grind (arith, common_steps);
}
