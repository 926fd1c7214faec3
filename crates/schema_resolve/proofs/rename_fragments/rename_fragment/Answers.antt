use Rattle.std.proofs.Common.{◌∷◌, ◌++◌, [], map, refl, sym, ap, ◌∙◌}
use Rattle.schema_resolve_targets.specs.ReferenceParts.{by_reference}
use Rattle.schema_resolve.specs.Renamed.{renamed_entry}
use Rattle.std.specs.List.{flat_map}
use Rattle.schema_json_walk.specs.Walk.{of_entry}
use Rattle.schema_resolve.proofs.Lists.{each_more, each_all, each_first, map_more, map_all, keys_kept, refused}
use Rattle.schema_resolve.proofs.rename_fragments.rename_fragment.Goals as goal

pub loop-ns-preserved : goal.loop-ns-preserved
loop-ns-preserved g c =
    let f = g.R.FragmentRenamer.becomes_in c.args.renamer.now in
    let h = g.R.FragmentRenamer.action_becomes_in c.args.renamer.now in
    let u = of_entry (λ ns. by_reference (g.R.FragmentRenamer.untargeted_in c.args.renamer.now ns)) in
    let es = c.as_slice-ns-items.result.now in
    let i = c.loop-ns.ns-index in
    let it = c.loop-ns-item.result in
    record {
      out = c.in_ok-push.ensures.items
          ∙ (λ k. c.loop-ns.invariant.out k ++ (c.in_ok-clone_in.ensures k, c.in_ok-definition.ensures.out k) ∷ [])
          ∙ sym (map_more (renamed_entry f h) es i it c.loop-ns-test.true c.loop-ns-item.is);
      defined = each_more u es i it c.loop-ns-test.true c.loop-ns-item.is c.loop-ns.invariant.defined
          c.in_ok-definition.ensures.defined;
    }

pub returns-in_err-definition-clause-err : goal.returns-in_err-definition-clause-err
returns-in_err-definition-clause-err g c =
    let u = of_entry (λ ns. by_reference (g.R.FragmentRenamer.untargeted_in c.args.renamer.now ns)) in
    let es = c.as_slice-ns-items.result.now in
    let e = c.in_err-definition.field-0.0 in
    refused c.from_residual-in_err-definition.result e (flat_map u c.args.fragment.now.0)
    c.from_residual-in_err-definition.ensures.1
    (rw (← c.as_slice-ns-items.ensures.entries)
    (each_first u es c.loop-ns.ns-index c.loop-ns-item.result e c.loop-ns-test.true c.loop-ns-item.is
    c.loop-ns.invariant.defined c.in_err-definition.ensures.err))

pub from_sorted_vec-requires : goal.from_sorted_vec-requires
from_sorted_vec-requires g c =
    let f = g.R.FragmentRenamer.becomes_in c.args.renamer.now in
    let h = g.R.FragmentRenamer.action_becomes_in c.args.renamer.now in
    let es = c.as_slice-ns-items.result.now in
    let all = c.loop-ns.invariant.out ∙ map_all (renamed_entry f h) es c.loop-ns.ns-index c.loop-ns-test.false in
    rw (all, keys_kept (renamed_entry f h) (λ e. refl) es, c.as_slice-ns-items.ensures.entries)
    c.as_slice-ns-items.ensures.sorted

pub returns-clause-out : goal.returns-clause-out
returns-clause-out g c =
    let f = g.R.FragmentRenamer.becomes_in c.args.renamer.now in
    let h = g.R.FragmentRenamer.action_becomes_in c.args.renamer.now in
    let es = c.as_slice-ns-items.result.now in
    λ k. record {
      0 = (c.from_sorted_vec.ensures ∙ c.loop-ns.invariant.out
          ∙ map_all (renamed_entry f h) es c.loop-ns.ns-index c.loop-ns-test.false
          ∙ ap (map (renamed_entry f h)) c.as_slice-ns-items.ensures.entries) k;
    }

pub returns-clause-defined : goal.returns-clause-defined
returns-clause-defined g c =
    let u = of_entry (λ ns. by_reference (g.R.FragmentRenamer.untargeted_in c.args.renamer.now ns)) in
    let es = c.as_slice-ns-items.result.now in
    ap (flat_map u) (sym c.as_slice-ns-items.ensures.entries)
    ∙ each_all u es c.loop-ns.ns-index c.loop-ns-test.false c.loop-ns.invariant.defined
