use Rattle.std.proofs.lemmas.Grind.{common_steps}
use Rattle.std.proofs.Common.{◌≡◌, ◌+◌, not, List, [], ◌∷◌, ◌++◌, map, take, arith, refl, sym, ap, ◌∙◌, subst}
use Rattle.std.proofs.Common.{Contains}
use Rattle.std.proofs.Common.{ℕ}
use Rattle.std.proofs.lemmas.List.Elements.{All-contains}
use Rattle.std.proofs.lemmas.List.{take_more, get_or-map, length-map}
use Rattle.cedar_data.proofs.Lists.{contains_map}
use Rattle.cedar_identifiers.specs.Names.{components_of, has_cedar}
use Rattle.cedar_identifiers.specs.declared.name.Name.{Name}
use Rattle.cedar_names.specs.Orders.{names_in_order}
use Rattle.schema_resolve_definitions.specs.Tests.{tests_of}
use Rattle.schema_build_checks.proofs.Names.{names_exact, names_tied}
use Rattle.schema_build_hierarchy.specs.Ancestors.{AreRowsFor}
use Rattle.schema_build_hierarchy.specs.Declarations.{entity_name}
use Rattle.schema_build_hierarchy.specs.Entries.{entity_of}
use Rattle.schema_build_hierarchy.specs.Parents.{entity_parents, AreParentsMeant}
use Rattle.schema_build_hierarchy.specs.Ranks.{AreRanksOf}
use Rattle.schema_build_hierarchy.proofs.Ordered.{sorted_seen, sorted_back}
use Rattle.schema_build_hierarchy.proofs.ParentRanks.{row_for, rows_more, filter_kept, filter_keeps}
use Rattle.schema_build_hierarchy.proofs.ancestors.entity_parent_rows.Goals as goal

pub ranks_of-requires : goal.ranks_of-requires
ranks_of-requires g c =
    sorted_seen (λ e. e.name) _ c.args.entries.now
    (sorted_back entity_of (λ a b. names_in_order a.name b.name) c.args.entries.now c.requires.0.rising)

pub entity_parents-requires : goal.entity_parents-requires
entity_parents-requires g c =
    let entries = c.args.entries.now in
    let i = c.loop-entry.entry-index in
    let e = c.entry-item.result in
    let there : Contains entries e = (i, c.loop-entry-test.true, sym c.entry-item.is) in
    All-contains (AreParentsMeant (tests_of c.args.defs.now)) g.ds (entity_of e) c.requires.1
    ((c.requires.0.same (entity_of e)).1 (contains_map entity_of entries e there))

pub loop-entry-preserved : goal.loop-entry-preserved
loop-entry-preserved g c =
    let t = tests_of c.args.defs.now in
    let entries = c.args.entries.now in
    let ds = map entity_of entries in
    let i = c.loop-entry.entry-index in
    let e = c.entry-item.result in
    let targets = entity_parents t (entity_of e) in
    let names = c.in_ok-names.names.items in
    let row = c.in_ok-ranks_of.field-0 in
    let free = λ (n : List (List ℕ)). not (has_cedar n) in
    let front : take (i + 1) ds ≡ take i ds ++ entity_of e ∷ [] =
    take_more ds i (entity_of e) (omega (arith, length-map entries entity_of, c.loop-entry-test.true))
    ∙ ap (λ z. take i ds ++ z ∷ [])
    (get_or-map entity_of entries i e (entity_of e) c.loop-entry-test.true ∙ ap entity_of (sym c.entry-item.is)) in
    let ranks : AreRanksOf (λ (a b : Name). names_in_order a.name b.name) (map (λ e. e.name) entries) names
    row.items = subst (λ ns. AreRanksOf (λ (a b : Name). names_in_order a.name b.name) (map (λ e. e.name) entries) ns
    row.items) c.deref.ensures.value c.in_ok-ranks_of.ensures in
    subst (λ l. AreRowsFor entity_name (entity_parents t) ds l c.push.new.self.items) (sym front)
    (rows_more entity_name (entity_parents t) ds (take i ds) c.loop-entry.rows.items c.push.new.self.items
    (entity_of e) row c.loop-entry.invariant
    (row_for (λ e. e.name) entity_of entity_name (λ (n : Name). components_of n.name) (λ e. refl)
    (λ a b h. names_exact a.name b.name h) (λ a b h. names_tied a.name b.name h)
    entries names row.items targets ranks
    (λ j h. filter_kept free targets j (subst (λ l. Contains l j) c.in_ok-names.ensures h))
    (λ x h. subst (λ l. Contains l (entity_name (entity_of x))) (sym c.in_ok-names.ensures)
    (filter_keeps free targets (entity_name (entity_of x)) h (ap not x.name.unreserved))))
    c.in_ok-push.ensures.items)

pub returns : goal.returns
returns g c = grind (arith, common_steps)
