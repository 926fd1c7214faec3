use Rattle.std.proofs.Common.{◌<◌, ◌≤◌, [], map, take, length, refl, sym, ap, ◌∙◌, subst, inr, arith, Contains, IfNone}
use Rattle.std.proofs.Common.{IfSome}
use Rattle.std.proofs.lemmas.Cmp.{on_total}
use Rattle.std.specs.List.{AllZip}
use Rattle.std.proofs.lemmas.List.{get_or-map, length-map, take_all}
use Rattle.cedar_data.proofs.Lists.{contains_map}
use Rattle.cedar_names.specs.Orders.{names_total}
use Rattle.schema_build_expand.specs.Expands.{ExpandsOnce}
use Rattle.schema_build_expand.specs.Scope.{AreDeclaredOnce}
use Rattle.schema_build_scope.specs.FragmentScope.{fragment_scope}
use Rattle.schema_build_hierarchy.specs.Declarations.{DeclaredEntity, declared_entities}
use Rattle.schema_build_hierarchy.specs.Entries.{entity_of}
use Rattle.schema_build_items.specs.Kinds.{IsKindBuilt}
use Rattle.schema_build_items.specs.NoRecord.{LacksShape, IsLeastShape, HasNoRecordShape}
use Rattle.schema_build_items.proofs.Fragments.{entity_ready, external_bare}
use Rattle.schema_build_items.proofs.Least.{none_lacks, none_less}
use Rattle.schema_build_items.proofs.Lists.{zip_seen_more}
use Rattle.schema_build_items.proofs.Made.{built_apart}
use Rattle.schema_build_items.proofs.kinds.entity_kinds.Goals as goal

pub loop-entry-init : goal.loop-entry-init
loop-entry-init c =
    let s = fragment_scope c.args.names.now.fragment c.args.names.now.table in
    let none : AllZip (IsKindBuilt s) (take 0 (map entity_of c.args.entries.now)) [] = tt in
    subst (AllZip (IsKindBuilt s) (take 0 (map entity_of c.args.entries.now))) (sym c.in_ok-kinds.ensures.items) none

among : (c : goal.After-entry-item)
    → Contains (declared_entities c.args.names.now.fragment) (entity_of c.entry-item.result)
among c =
    let e = c.entry-item.result in
    let entries = c.args.entries.now in
    (c.requires.entries.same (entity_of e)).1
    (contains_map entity_of entries e (c.loop-entry.entry-index, c.loop-entry-test.true, sym c.entry-item.is))

pub entity_kind-requires-clause-ready : goal.entity_kind-requires-clause-ready
entity_kind-requires-clause-ready c =
    entity_ready c.args.names.now.fragment c.args.names.now.table c.args.done.now c.requires.ready
    (entity_of c.entry-item.result) (among c)

pub entity_kind-requires-clause-bare : goal.entity_kind-requires-clause-bare
entity_kind-requires-clause-bare c =
    external_bare c.args.names.now.fragment c.requires.known.features (entity_of c.entry-item.result) (among c)

pub returns-in-None-clause-err : goal.returns-in-None-clause-err
returns-in-None-clause-err c =
    let f = c.args.names.now.fragment in
    let table = c.args.names.now.table in
    let s = fragment_scope f table in
    let e = c.entry-item.result in
    let d = entity_of e in
    let entries = c.args.entries.now in
    let i = c.loop-entry.entry-index in
    let lt : i < length (map entity_of entries) = omega (arith, c.loop-entry-test.true, length-map entries entity_of) in
    let at = get_or-map entity_of entries i e d c.loop-entry-test.true ∙ ap entity_of (sym c.entry-item.is) in
    let one : AreDeclaredOnce (fragment_scope f c.table.result.now) =
    subst (λ f. AreDeclaredOnce (fragment_scope f c.table.result.now)) c.fragment.ensures
    c.common_types_are_declared_once.ensures in
    let declared : AreDeclaredOnce s = subst (λ t. AreDeclaredOnce (fragment_scope f t)) c.table.ensures one in
    let once : ExpandsOnce s = c.types_stand_for_one.ensures s declared in
    let told = c.in_ok-no_shape-in-None.ensures in
    inr (subst (HasNoRecordShape f table) (sym told.1) (subst (IsLeastShape s f) (sym told.2) (
      d,
      refl,
      record {
        among = (c.requires.entries.same d).1
            (contains_map entity_of entries e (i, c.loop-entry-test.true, sym c.entry-item.is));
        passes_too = subst (λ o. IfNone o (LacksShape s d)) c.in-None.is c.in_ok-kind.ensures.none;
        none_less = λ y cy py.
            none_less (IsKindBuilt s) (LacksShape s) (built_apart s once)
            (on_total (λ (d : DeclaredEntity). d.name) names_total)
            (map entity_of entries) c.loop-entry.kinds.items i d c.requires.entries.rising lt at
            c.loop-entry.invariant y
            ((c.requires.entries.same y).0 cy) py;
      },
    )))

pub loop-entry-preserved : goal.loop-entry-preserved
loop-entry-preserved c =
    let s = fragment_scope c.args.names.now.fragment c.args.names.now.table in
    let e = c.entry-item.result in
    let built : IsKindBuilt s (entity_of e) c.in-Some.kind =
    subst (λ o. IfSome o (IsKindBuilt s (entity_of e))) c.in-Some.is c.in_ok-kind.ensures.some in
    subst (AllZip (IsKindBuilt s) _) (sym c.in_ok-push-in-Some.ensures.items)
    (zip_seen_more entity_of (IsKindBuilt s) c.args.entries.now c.loop-entry.kinds.items c.loop-entry.entry-index e
    c.in-Some.kind
    c.loop-entry-test.true c.entry-item.is c.loop-entry.invariant built)

pub returns-clause-kinds : goal.returns-clause-kinds
returns-clause-kinds c =
    let s = fragment_scope c.args.names.now.fragment c.args.names.now.table in
    let ds = map entity_of c.args.entries.now in
    let past : length ds ≤ c.loop-entry.entry-index = omega
    (arith, c.loop-entry-test.false, length-map c.args.entries.now entity_of) in
    subst (λ l. AllZip (IsKindBuilt s) l c.loop-entry.kinds.items) (take_all c.loop-entry.entry-index ds past)
    c.loop-entry.invariant

pub returns-clause-ok : goal.returns-clause-ok
returns-clause-ok c = λ y cy py.
    let f = c.args.names.now.fragment in
    let table = c.args.names.now.table in
    let s = fragment_scope f table in
    let one : AreDeclaredOnce (fragment_scope f c.table.result.now) =
    subst (λ f. AreDeclaredOnce (fragment_scope f c.table.result.now)) c.fragment.ensures
    c.common_types_are_declared_once.ensures in
    let declared : AreDeclaredOnce s = subst (λ t. AreDeclaredOnce (fragment_scope f t)) c.table.ensures one in
    let once : ExpandsOnce s = c.types_stand_for_one.ensures s declared in
    none_lacks (IsKindBuilt s) (LacksShape s) (built_apart s once) (map entity_of c.args.entries.now)
    c.loop-entry.kinds.items
    (returns-clause-kinds c) y ((c.requires.entries.same y).0 cy) py
