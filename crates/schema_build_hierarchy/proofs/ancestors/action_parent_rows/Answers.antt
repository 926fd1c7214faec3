use Rattle.std.proofs.lemmas.Grind.{common_steps}
use Rattle.cedar_names.specs.Orders.{uids_in_order}
use Rattle.std.proofs.Common.{◌≡◌, ◌+◌, [], ◌∷◌, ◌++◌, map, take, arith, refl, sym, ap, ◌∙◌, subst, Contains}
use Rattle.std.proofs.lemmas.List.{take_more, get_or-map, length-map}
use Rattle.cedar_names.specs.Definitions.{action_of}
use Rattle.schema_resolve_definitions.specs.Tests.{tests_of}
use Rattle.schema_build_checks.specs.DeclaredAt.{at_of, actions_at_in_order}
use Rattle.schema_build_hierarchy.specs.Ancestors.{AreRowsFor}
use Rattle.schema_build_hierarchy.specs.Declarations.{action_key}
use Rattle.schema_build_hierarchy.specs.Entries.{action_of_entry}
use Rattle.schema_build_hierarchy.specs.Parents.{action_parents}
use Rattle.schema_build_hierarchy.specs.Ranks.{AreRanksOf}
use Rattle.schema_build_hierarchy.proofs.Exact.{actions_exact, actions_tied}
use Rattle.schema_build_hierarchy.proofs.Ordered.{sorted_seen, sorted_back}
use Rattle.schema_build_hierarchy.proofs.ParentRanks.{row_for, rows_more}
use Rattle.schema_build_hierarchy.proofs.ancestors.action_parent_rows.Goals as goal

pub ranks_of-requires : goal.ranks_of-requires
ranks_of-requires g c =
    sorted_seen (λ e. e.name) _ c.args.entries.now
    (sorted_back action_of_entry (λ a b. actions_at_in_order a.name b.name) c.args.entries.now c.requires.rising)

pub loop-entry-preserved : goal.loop-entry-preserved
loop-entry-preserved g c =
    let t = tests_of c.args.defs.now in
    let entries = c.args.entries.now in
    let ds = map action_of_entry entries in
    let i = c.loop-entry.entry-index in
    let e = c.entry-item.result in
    let targets = action_parents t (action_of_entry e) in
    let names = c.in_ok-names.names.items in
    let row = c.in_ok-ranks_of.field-0 in
    let front : take (i + 1) ds ≡ take i ds ++ action_of_entry e ∷ [] =
    take_more ds i (action_of_entry e) (omega (arith, length-map entries action_of_entry, c.loop-entry-test.true))
    ∙ ap (λ z. take i ds ++ z ∷ [])
    (get_or-map action_of_entry entries i e (action_of_entry e) c.loop-entry-test.true
    ∙ ap action_of_entry (sym c.entry-item.is)) in
    let ranks : AreRanksOf uids_in_order (map (λ e. e.name) entries) names row.items = subst
    (λ ns. AreRanksOf uids_in_order (map (λ e. e.name) entries) ns row.items) c.deref.ensures.value
    c.in_ok-ranks_of.ensures in
    subst (λ l. AreRowsFor action_key (action_parents t) ds l c.push.new.self.items) (sym front)
    (rows_more action_key (action_parents t) ds (take i ds) c.loop-entry.rows.items c.push.new.self.items
    (action_of_entry e) row c.loop-entry.invariant
    (row_for (λ e. e.name) action_of_entry action_key action_of (λ e. refl)
    (λ a b h. actions_exact (at_of a) (at_of b) h) (λ a b h. actions_tied (at_of a) (at_of b) h)
    entries names row.items targets ranks
    (λ j h. subst (λ l. Contains l j) c.in_ok-names.ensures h)
    (λ x h. subst (λ l. Contains l (action_key (action_of_entry x))) (sym c.in_ok-names.ensures) h))
    c.in_ok-push.ensures.items)

pub returns : goal.returns
returns g c = grind (arith, common_steps)
