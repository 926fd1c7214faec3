use Rattle.std.proofs.Common.{rules, sym, subst}
use Rattle.schema_build_expand.specs.Targets.{AreExpanded}
use Rattle.schema_build_scope.specs.CycleRow.{HasCommonCycle}
use Rattle.schema_build_scope.specs.FragmentScope.{fragment_scope}
use Rattle.schema_build_scope.specs.Parts.{AreTypesReady}
use Rattle.schema_build_items.specs.NoRecord.{HasNoRecord, HasNoRecordShape, HasNoRecordContext}
use Rattle.schema_build_parts.proofs.NoRecords.{no_shape, no_context}
use Rattle.schema_build_parts.proofs.Rows.{never_else}
use Rattle.schema_build_parts.proofs.types.build_types.Goals as goal

pub entity_kinds-requires-clause-done : goal.entity_kinds-requires-clause-done
entity_kinds-requires-clause-done c =
    let names = c.args.names.now in
    subst (AreExpanded (fragment_scope names.fragment names.table)) (sym c.deref.ensures.value)
    c.in_ok-done.ensures.expanded

pub entity_kinds-requires-clause-ready : goal.entity_kinds-requires-clause-ready
entity_kinds-requires-clause-ready c =
    subst (AreTypesReady c.args.names.now.fragment c.args.names.now.table) (sym c.deref.ensures.value)
    c.in_ok-done.ensures.ready

pub action_kinds-requires-clause-done : goal.action_kinds-requires-clause-done
action_kinds-requires-clause-done c =
    let names = c.args.names.now in
    subst (AreExpanded (fragment_scope names.fragment names.table)) (sym c.deref-2.ensures.value)
    c.in_ok-done.ensures.expanded

pub action_kinds-requires-clause-ready : goal.action_kinds-requires-clause-ready
action_kinds-requires-clause-ready c =
    subst (AreTypesReady c.args.names.now.fragment c.args.names.now.table) (sym c.deref-2.ensures.value)
    c.in_ok-done.ensures.ready

pub returns-in_err-applied-clause-err : goal.returns-in_err-applied-clause-err
returns-in_err-applied-clause-err c =
    let names = c.args.names.now in
    let none = no_shape names.fragment names.table c.in_ok-kinds.ensures.ok in
    search rules

pub returns-clause-ok : goal.returns-clause-ok
returns-clause-ok c =
    let f = c.args.names.now.fragment in
    let table = c.args.names.now.table in
    let shapes = no_shape f table c.in_ok-kinds.ensures.ok in
    let contexts = no_context f table c.in_ok-applied.ensures.ok in
    never_else (HasCommonCycle f table) (HasNoRecord f table) c.in_ok-done.ensures.ok
    (never_else (HasNoRecordShape f table) (HasNoRecordContext f table) shapes contexts)
