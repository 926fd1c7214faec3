use Rattle.std.proofs.Common.{◌∷◌, ◌++◌, [], sym, ◌∙◌}
use Rattle.std.specs.List.{flat_map}
use Rattle.schema_resolve_targets.specs.ReferenceParts.{by_reference}
use Rattle.schema_json_walk.specs.Walk.{of_uid}
use Rattle.schema_resolve.proofs.Lists.{each_more, each_first, map_more, refused}
use Rattle.schema_resolve.specs.Renamed.{renamed_uid}
use Rattle.schema_resolve.proofs.rename_items.rename_uids.Goals as goal

pub returns-in_err-uid-clause-err : goal.returns-in_err-uid-clause-err
returns-in_err-uid-clause-err g c =
    let u = of_uid (by_reference (g.R.Renamer.untargeted c.args.renamer.now)) in
    let xs = c.args.uids.now in
    refused _ c.in_err-uid.field-0.0 (flat_map u xs) c.from_residual-in_err-uid.ensures.1
    (each_first u xs c.loop-uid.uid-index c.uid-item.result c.in_err-uid.field-0.0 c.loop-uid-test.true c.uid-item.is
    c.loop-uid.invariant.defined c.in_err-uid.ensures.err)

pub loop-uid-preserved : goal.loop-uid-preserved
loop-uid-preserved g c =
    let f = renamed_uid (g.R.Renamer.becomes c.args.renamer.now) (g.R.Renamer.action_becomes c.args.renamer.now) in
    let u = of_uid (by_reference (g.R.Renamer.untargeted c.args.renamer.now)) in
    let xs = c.args.uids.now in
    let i = c.loop-uid.uid-index in
    let it = c.uid-item.result in
    record {
      out = c.in_ok-push.ensures.items ∙ (λ k. c.loop-uid.invariant.out k ++ c.in_ok-uid.ensures.out k ∷ [])
          ∙ sym (map_more f xs i it c.loop-uid-test.true c.uid-item.is);
      defined = each_more u xs i it c.loop-uid-test.true c.uid-item.is c.loop-uid.invariant.defined
          c.in_ok-uid.ensures.defined;
    }
