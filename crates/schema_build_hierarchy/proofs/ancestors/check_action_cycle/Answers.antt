use Rattle.std.proofs.Common.{rules, ◌≡◌, ◌<◌, map, length, refl, sym, ap, ◌∙◌, subst, inr, arith, Some}
use Rattle.std.specs.Prelude.{slice_get}
use Rattle.std.proofs.lemmas.Cmp.{on_total}
use Rattle.std.proofs.lemmas.List.{length-map}
use Rattle.std.proofs.lemmas.Option.{slice_get_read}
use Rattle.schema_build_graph.specs.Order.{IsLeastCyclicOf}
use Rattle.schema_build_graph.proofs.Paths.{reaches_through}
use Rattle.schema_build_checks.specs.DeclaredAt.{at_of}
use Rattle.schema_build_hierarchy.specs.Rows.{IsCycleOf}
use Rattle.schema_build_hierarchy.specs.Declarations.{Declared, action_key}
use Rattle.schema_build_hierarchy.specs.Entries.{action_of_entry}
use Rattle.schema_build_hierarchy.specs.Parents.{IsActionParent, IsActionAncestor}
use Rattle.schema_build_hierarchy.proofs.Above.{contains_at, at_contained}
use Rattle.schema_build_hierarchy.proofs.Cycles.{closed, own_cycle, cycle_there, cycle_within, behind, names_apart}
use Rattle.schema_build_hierarchy.proofs.Exact.{actions_total, actions_tied}
use Rattle.schema_build_hierarchy.proofs.ParentRanks.{at_map, map_at}
use Rattle.schema_build_hierarchy.proofs.ancestors.check_action_cycle.Goals as goal

pub bounds-entries-rank : goal.bounds-entries-rank
bounds-entries-rank g c =
    let E = IsActionAncestor g.g.0 g.g.1 in
    let entries = c.args.entries.now in
    let names = map (λ e. action_key (action_of_entry e)) entries in
    let rows = c.args.ancestors.now in
    let through = reaches_through (IsActionParent g.g.0 g.g.1) in
    let apart = names_apart (on_total (λ (d : Declared _ _). d.name) actions_total) action_of_entry action_key
    (λ a b e. actions_tied a.name b.name e) entries c.requires.0.rising in
    let all = closed E through names rows c.requires.1 apart in
    let least = subst (IsLeastCyclicOf rows) c.in-Some.is (c.least_cyclic.ensures rows all) in
    let within : c.in-Some.rank < length names = cycle_within E through names rows c.requires.1 apart c.in-Some.rank
    c.in-Some.rank least.cyclic in
    omega (arith, within, length-map entries (λ e. action_key (action_of_entry e)))

pub offset_bounds-entries-rank : goal.offset_bounds-entries-rank
offset_bounds-entries-rank g c = let within = bounds-entries-rank g c in search rules

pub returns-in_ok-cycle_at-in-Some-clause-err : goal.returns-in_ok-cycle_at-in-Some-clause-err
returns-in_ok-cycle_at-in-Some-clause-err g c =
    let E = IsActionAncestor g.g.0 g.g.1 in
    let entries = c.args.entries.now in
    let es = map action_of_entry entries in
    let names = map (λ e. action_key (action_of_entry e)) entries in
    let rows = c.args.ancestors.now in
    let rank = c.in-Some.rank in
    let held = c.requires.0 in
    let through = reaches_through (IsActionParent g.g.0 g.g.1) in
    let order = on_total (λ (d : Declared _ _). d.name) actions_total in
    let apart = names_apart order action_of_entry action_key (λ a b e. actions_tied a.name b.name e) entries
    held.rising in
    let all = closed E through names rows c.requires.1 apart in
    let least = subst (IsLeastCyclicOf rows) c.in-Some.is (c.least_cyclic.ensures rows all) in
    let within : rank < length names = cycle_within E through names rows c.requires.1 apart rank rank least.cyclic in
    let lt : rank < length entries = omega (arith, within, length-map entries (λ e. action_key (action_of_entry e))) in
    let e = c.index-entries-rank.result in
    let at : slice_get entries rank
    ≡ Some e = slice_get_read entries (length entries) rank e refl lt c.index-entries-rank.is in
    let d = action_of_entry e in
    let there : slice_get es rank ≡ Some d = map_at action_of_entry entries rank e at in
    let told = subst (λ z. IsCycleOf (at_of z.name) c.in_ok-cycle_at-in-Some.field-0) (sym c.index-entries-rank.is)
    c.in_ok-cycle_at-in-Some.ensures in
    inr (
      d,
      told,
      record {
        among = (held.same d).1 (contains_at es rank d there);
        passes_too = own_cycle E through names rows c.requires.1 apart rank (action_key d)
            (map_at (λ e. action_key (action_of_entry e)) entries rank e at) least.cyclic;
        none_less = λ y cy py. (
            let (j, jy) = at_contained es y ((held.same y).0 cy) in
            let (x, jx, same) = at_map action_of_entry entries j y jy in
            let named : slice_get names j ≡ Some (action_key y) = map_at (λ e. action_key (action_of_entry e)) entries
            j x jx ∙ ap (λ z. Some (action_key z)) same in
            behind order es held.rising rank j d y
            (least.least j (cycle_there E through names rows c.requires.1 apart j (action_key y) named py)) there jy);
      },
    )

pub returns-in-None-clause-ok : goal.returns-in-None-clause-ok
returns-in-None-clause-ok g c = λ e h.
    let E = IsActionAncestor g.g.0 g.g.1 in
    let entries = c.args.entries.now in
    let es = map action_of_entry entries in
    let names = map (λ e. action_key (action_of_entry e)) entries in
    let rows = c.args.ancestors.now in
    let held = c.requires.0 in
    let through = reaches_through (IsActionParent g.g.0 g.g.1) in
    let order = on_total (λ (d : Declared _ _). d.name) actions_total in
    let apart = names_apart order action_of_entry action_key (λ a b e. actions_tied a.name b.name e) entries
    held.rising in
    let all = closed E through names rows c.requires.1 apart in
    let none = subst (IsLeastCyclicOf rows) c.in-None.is (c.least_cyclic.ensures rows all) in
    let y = h.0 in
    let (j, jy) = at_contained es y ((held.same y).0 h.2.among) in
    let (x, jx, same) = at_map action_of_entry entries j y jy in
    let named : slice_get names j ≡ Some (action_key y) = map_at (λ e. action_key (action_of_entry e)) entries j x jx
    ∙ ap (λ z. Some (action_key z)) same in
    none j (cycle_there E through names rows c.requires.1 apart j (action_key y) named h.2.passes_too)
