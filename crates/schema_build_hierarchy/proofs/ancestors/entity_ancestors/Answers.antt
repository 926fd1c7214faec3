use Rattle.std.proofs.Common.{map, sym, subst}
use Rattle.std.proofs.lemmas.Cmp.{on_total}
use Rattle.std.proofs.lemmas.Result.{IfOk-weaker}
use Rattle.cedar_data.proofs.Lists.{map-map}
use Rattle.cedar_names.specs.Orders.{names_total}
use Rattle.schema_resolve_definitions.specs.Tests.{tests_of}
use Rattle.schema_build_checks.proofs.Names.{names_tied}
use Rattle.schema_build_hierarchy.specs.Ancestors.{AreParentRows, AreAncestorRows, IsAncestorAmong}
use Rattle.schema_build_hierarchy.specs.Declarations.{Declared, entity_name}
use Rattle.schema_build_hierarchy.specs.Entries.{entity_of}
use Rattle.schema_build_hierarchy.specs.Parents.{entity_parents}
use Rattle.schema_build_hierarchy.proofs.Ranked.{one_place}
use Rattle.schema_build_hierarchy.proofs.Above.{rows_are, rows_moved, ancestor_moved, declared_moved}
use Rattle.schema_build_hierarchy.proofs.ParentRanks.{rows_below}
use Rattle.schema_build_hierarchy.proofs.ancestors.entity_ancestors.Goals as goal

pub closure-requires : goal.closure-requires
closure-requires g c =
    rows_below entity_name (entity_parents (tests_of c.args.defs.now)) (map entity_of c.args.entries.now)
    c.deref.result.now
    (subst (AreParentRows entity_name (entity_parents (tests_of c.args.defs.now)) (map entity_of c.args.entries.now))
    (sym c.deref.ensures.value) c.in_ok-rows.ensures)

pub returns : goal.returns
returns g c =
    let t = tests_of c.args.defs.now in
    let entries = c.args.entries.now in
    let es = map entity_of entries in
    let graph = c.deref.result.now in
    let are = subst (AreParentRows entity_name (entity_parents t) es) (sym c.deref.ensures.value)
    c.in_ok-rows.ensures in
    let held = c.requires.0 in
    IfOk-weaker c.closure.result _ _ (λ rows all.
    subst (λ names. AreAncestorRows (IsAncestorAmong entity_name (entity_parents t) g.ds) names rows.items)
    (map-map entity_name entity_of entries)
    (rows_moved (IsAncestorAmong entity_name (entity_parents t) es)
    (IsAncestorAmong entity_name (entity_parents t) g.ds)
    (ancestor_moved entity_name (entity_parents t) es g.ds (λ d h. (held.same d).1 h))
    (ancestor_moved entity_name (entity_parents t) g.ds es (λ d h. (held.same d).0 h)) (map entity_name es) rows.items
    (rows_are entity_name (entity_parents t) es graph are
    (λ i j a b p q e. one_place (on_total (λ (d : Declared _ _). d.name) names_total) es held.rising i j a b p q
    (names_tied a.name b.name e))
    (declared_moved entity_name (entity_parents t) g.ds es (λ d h. (held.same d).0 h) (λ d h. (held.same d).1 h)
    c.requires.1.0) rows.items all))) c.closure.ensures
