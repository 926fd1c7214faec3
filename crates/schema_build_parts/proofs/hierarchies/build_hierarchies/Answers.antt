use Rattle.std.proofs.Common.{map, sym, subst}
use Rattle.schema_build_hierarchy.specs.Ancestors.{AreAncestorRows}
use Rattle.schema_build_hierarchy.specs.Declarations.{entity_name, action_key}
use Rattle.schema_build_hierarchy.specs.Entries.{entity_of, action_of_entry}
use Rattle.schema_build_hierarchy.specs.Parents.{IsAncestor, IsActionAncestor}
use Rattle.schema_build_hierarchy.specs.Rows.{HasActionCycle, HasExternalUnderEnum}
use Rattle.schema_build_parts.specs.BuildFaults.{HierarchyFault}
use Rattle.schema_build_parts.proofs.Rows.{never_else, or_first, or_behind, refused}
use Rattle.schema_build_parts.proofs.hierarchies.build_hierarchies.Goals as goal

pub check_action_cycle-requires : goal.check_action_cycle-requires
check_action_cycle-requires g c =
    let names = map (λ e. action_key (action_of_entry e)) c.args.actions.now in
    let rows = subst (λ z. AreAncestorRows (IsActionAncestor z g.g.1.1) names c.in_ok-above_actions.above_actions.items)
    (sym c.requires.0) c.in_ok-above_actions.ensures in
    (c.requires.1.1.0, subst (AreAncestorRows (IsActionAncestor g.g.0 g.g.1.1) names) (sym c.deref.ensures.value) rows)

pub check_external_types-requires : goal.check_external_types-requires
check_external_types-requires g c =
    let names = map (λ e. entity_name (entity_of e)) c.args.entities.now in
    let rows = subst (λ z. AreAncestorRows (IsAncestor z g.g.1.0) names c.in_ok-above.above.items)
    (sym c.requires.0) c.in_ok-above.ensures in
    (c.requires.1.0, subst (AreAncestorRows (IsAncestor g.g.0 g.g.1.0) names) (sym c.deref-2.ensures.value) rows)

pub returns-in_err-check_action_cycle-clause-err :
    goal.returns-in_err-check_action_cycle-clause-err
returns-in_err-check_action_cycle-clause-err g c =
    let e = c.in_err-check_action_cycle.field-0.0 in
    refused (HierarchyFault g.g.0 g.g.1.0 g.g.1.1) c.from_residual-in_err-check_action_cycle.result e
    c.from_residual-in_err-check_action_cycle.ensures.1
    (or_first (HasActionCycle g.g.0 g.g.1.1) (HasExternalUnderEnum g.g.0 g.g.1.0) e
    c.in_err-check_action_cycle.ensures.err)

pub returns-in_err-check_external_types-clause-err :
    goal.returns-in_err-check_external_types-clause-err
returns-in_err-check_external_types-clause-err g c =
    let e = c.in_err-check_external_types.field-0.0 in
    refused (HierarchyFault g.g.0 g.g.1.0 g.g.1.1) c.from_residual-in_err-check_external_types.result e
    c.from_residual-in_err-check_external_types.ensures.1
    (or_behind (HasActionCycle g.g.0 g.g.1.1) (HasExternalUnderEnum g.g.0 g.g.1.0)
    c.in_ok-check_action_cycle.ensures.ok e c.in_err-check_external_types.ensures.err)

pub returns-clause-above : goal.returns-clause-above
returns-clause-above g c =
    let names = map (λ e. entity_name (entity_of e)) c.args.entities.now in
    subst (λ z. AreAncestorRows (IsAncestor z g.g.1.0) names c.in_ok-above.above.items) (sym c.requires.0)
    c.in_ok-above.ensures

pub returns-clause-above_actions : goal.returns-clause-above_actions
returns-clause-above_actions g c =
    let names = map (λ e. action_key (action_of_entry e)) c.args.actions.now in
    subst (λ z. AreAncestorRows (IsActionAncestor z g.g.1.1) names c.in_ok-above_actions.above_actions.items)
    (sym c.requires.0) c.in_ok-above_actions.ensures

pub returns-clause-ok : goal.returns-clause-ok
returns-clause-ok g c =
    never_else (HasActionCycle g.g.0 g.g.1.1) (HasExternalUnderEnum g.g.0 g.g.1.0)
    c.in_ok-check_action_cycle.ensures.ok c.in_ok-check_external_types.ensures.ok
