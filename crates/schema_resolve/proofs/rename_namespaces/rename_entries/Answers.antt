use Rattle.std.proofs.Common.{◌∷◌, ◌++◌, [], map, sym, ap, ◌∙◌}
use Rattle.cedar_data.specs.Entries.{on_value, keys_on_values}
use Rattle.schema_json_walk.specs.Walk.{each_value}
use Rattle.schema_resolve.proofs.Lists.{each_more, each_all, each_first, map_more, map_all, refused}
use Rattle.schema_resolve.proofs.rename_namespaces.rename_entries.Goals as goal

pub loop-id-preserved : goal.loop-id-preserved
loop-id-preserved g c =
    let es = c.as_slice-id-items.result.now in
    let i = c.loop-id.id-index in
    let it = c.loop-id-item.result in
    record {
      out = c.in_ok-push.ensures.items
          ∙ (λ k. c.loop-id.invariant.out k ++ (c.in_ok-id.ensures k, c.in_ok-item.ensures.out k) ∷ [])
          ∙ sym (map_more (on_value
          (g.T.Renamed.output (g.R.Renamer.becomes c.args.renamer.now)
          (g.R.Renamer.action_becomes c.args.renamer.now))) es i it
          c.loop-id-test.true c.loop-id-item.is);
      defined = each_more (λ e. g.T.Renamed.undefined (g.R.Renamer.untargeted c.args.renamer.now) e.1) es i it
          c.loop-id-test.true c.loop-id-item.is c.loop-id.invariant.defined c.in_ok-item.ensures.defined;
    }

pub returns-in_err-item-clause-err : goal.returns-in_err-item-clause-err
returns-in_err-item-clause-err g c =
    let es = c.as_slice-id-items.result.now in
    let e = c.in_err-item.field-0.0 in
    refused c.from_residual-in_err-item.result e
    (each_value (g.T.Renamed.undefined (g.R.Renamer.untargeted c.args.renamer.now)) c.args.entries.now)
    c.from_residual-in_err-item.ensures.1
    (rw (← c.as_slice-id-items.ensures.entries)
    (each_first (λ e. g.T.Renamed.undefined (g.R.Renamer.untargeted c.args.renamer.now) e.1) es c.loop-id.id-index
    c.loop-id-item.result e c.loop-id-test.true c.loop-id-item.is c.loop-id.invariant.defined
    c.in_err-item.ensures.err))

pub from_sorted_vec-requires : goal.from_sorted_vec-requires
from_sorted_vec-requires g c =
    let es = c.as_slice-id-items.result.now in
    let all = c.loop-id.invariant.out
    ∙ map_all (on_value (g.T.Renamed.output (g.R.Renamer.becomes c.args.renamer.now)
    (g.R.Renamer.action_becomes c.args.renamer.now))) es c.loop-id.id-index
    c.loop-id-test.false in
    rw (
      all,
      keys_on_values (g.T.Renamed.output (g.R.Renamer.becomes c.args.renamer.now)
          (g.R.Renamer.action_becomes c.args.renamer.now)) es,
      c.as_slice-id-items.ensures.entries,
    ) c.as_slice-id-items.ensures.sorted

pub returns-clause-out : goal.returns-clause-out
returns-clause-out g c =
    let es = c.as_slice-id-items.result.now in
    c.from_sorted_vec.ensures ∙ c.loop-id.invariant.out
    ∙ map_all (on_value (g.T.Renamed.output (g.R.Renamer.becomes c.args.renamer.now)
    (g.R.Renamer.action_becomes c.args.renamer.now))) es c.loop-id.id-index
    c.loop-id-test.false ∙ ap
    (map (on_value (g.T.Renamed.output (g.R.Renamer.becomes c.args.renamer.now)
    (g.R.Renamer.action_becomes c.args.renamer.now))))
    c.as_slice-id-items.ensures.entries

pub returns-clause-defined : goal.returns-clause-defined
returns-clause-defined g c =
    let es = c.as_slice-id-items.result.now in
    ap (each_value (g.T.Renamed.undefined (g.R.Renamer.untargeted c.args.renamer.now)))
    (sym c.as_slice-id-items.ensures.entries)
    ∙ each_all (λ e. g.T.Renamed.undefined (g.R.Renamer.untargeted c.args.renamer.now) e.1) es c.loop-id.id-index
    c.loop-id-test.false c.loop-id.invariant.defined
