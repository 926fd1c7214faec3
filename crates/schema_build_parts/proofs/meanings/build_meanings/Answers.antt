use Rattle.std.proofs.Common.{◌≡◌, ◌∙◌, map, All, sym, ap, subst}
use Rattle.std.specs.List.{AllZip}
use Rattle.schema_resolve_definitions.specs.Tests.{tests_of}
use Rattle.schema_build_checks.specs.Rows.{Never, OrMemory}
use Rattle.schema_build_scope.specs.FragmentScope.{fragment_scope}
use Rattle.schema_build_scope.specs.Rows.{OrElse}
use Rattle.schema_build_hierarchy.specs.Ancestors.{AreParentsDeclared, AreAncestorRows}
use Rattle.schema_build_hierarchy.specs.Declarations.{declared_entities, declared_actions, entity_name, action_key}
use Rattle.schema_build_hierarchy.specs.Entries.{AreEntities, AreActions, entity_of, action_of_entry}
use Rattle.schema_build_hierarchy.specs.Parents.{entity_parents, action_parents, AreParentsMeant, IsAncestor}
use Rattle.schema_build_hierarchy.specs.Parents.{IsActionAncestor}
use Rattle.schema_build_hierarchy.specs.Rows.{HasUndeclaredEntityTypes}
use Rattle.schema_build_items.specs.ActionKinds.{IsActionKindBuilt, tests_alone}
use Rattle.schema_build_items.specs.Kinds.{IsKindBuilt}
use Rattle.schema_build_parts.specs.BuildFaults.{TypeFault, HierarchyFault, MeaningFault}
use Rattle.schema_build_parts.proofs.KnownParents.{all_parents_meant}
use Rattle.schema_build_parts.proofs.Moved.{moved, moved_thrice}
use Rattle.schema_build_parts.proofs.Rows.{never_else, or_first, or_behind, refused}
use Rattle.schema_build_parts.proofs.meanings.build_meanings.Goals as goal

pub returns-in_err-check_declared_types-clause-err :
    goal.returns-in_err-check_declared_types-clause-err
returns-in_err-check_declared_types-clause-err g c =
    let f = c.args.names.now.fragment in
    let table = c.args.names.now.table in
    let t = tests_alone f table in
    let e = c.in_err-check_declared_types.field-0.0 in
    refused (MeaningFault f table) c.from_residual.result e c.from_residual.ensures.1
    (or_first (HasUndeclaredEntityTypes t f)
    (OrElse (TypeFault f table) (HierarchyFault t (declared_entities f) (declared_actions f))) e
    (moved (λ t f. OrMemory (HasUndeclaredEntityTypes t f) e) c.defs-defs.ensures c.requires.0
    c.in_err-check_declared_types.ensures.err))

pub returns-in_err-kinds-clause-err : goal.returns-in_err-kinds-clause-err
returns-in_err-kinds-clause-err g c =
    let f = c.args.names.now.fragment in
    let table = c.args.names.now.table in
    let t = tests_alone f table in
    let hierarchies = HierarchyFault t (declared_entities f) (declared_actions f) in
    let e = c.in_err-kinds.field-0.0 in
    let declared : Never (HasUndeclaredEntityTypes t f) = moved (λ t f. Never (HasUndeclaredEntityTypes t f))
    c.defs-defs.ensures c.requires.0 c.in_ok-check_declared_types.ensures.ok in
    refused (MeaningFault f table) c.from_residual-in_err-kinds.result e c.from_residual-in_err-kinds.ensures.1
    (or_behind (HasUndeclaredEntityTypes t f) (OrElse (TypeFault f table) hierarchies) declared e
    (or_first (TypeFault f table) hierarchies e c.in_err-kinds.ensures.err))

pub build_hierarchies-requires : goal.build_hierarchies-requires
build_hierarchies-requires g c =
    let f = c.args.names.now.fragment in
    let table = c.args.names.now.table in
    let own = tests_of c.defs-defs.result.now in
    let known = c.requires.1.1.1.1.1 in
    let entities : declared_entities c.args.fragment.now ≡ g.g.1.1.0 = ap declared_entities c.requires.0
    ∙ sym c.requires.1.1.1.0 in
    let actions : declared_actions c.args.fragment.now ≡ g.g.1.1.1 = ap declared_actions c.requires.0
    ∙ sym c.requires.1.1.1.1.0 in (
      c.requires.1.1.0 ∙ sym c.defs-defs.ensures,
      (
        moved AreEntities entities (sym c.deref-3.ensures.value) c.in_ok-entities.ensures,
        (
          moved AreActions actions (sym c.deref-4.ensures.value) c.in_ok-actions.ensures,
          (
            subst (AreParentsDeclared entity_name (entity_parents own)) entities
                c.in_ok-check_declared_types.ensures.declared,
            (
              subst (AreParentsDeclared action_key (action_parents own)) actions c.action_parents_are_declared.ensures,
              subst (λ t. All (AreParentsMeant t) g.g.1.1.0) (sym c.defs-defs.ensures)
                  (subst (All (AreParentsMeant (tests_alone f table))) (sym c.requires.1.1.1.0)
                  (all_parents_meant f table known)),
            ),
          ),
        ),
      ),
    )

pub returns-in_err-above-clause-err : goal.returns-in_err-above-clause-err
returns-in_err-above-clause-err g c =
    let f = c.args.names.now.fragment in
    let table = c.args.names.now.table in
    let t = tests_alone f table in
    let hierarchies = HierarchyFault t (declared_entities f) (declared_actions f) in
    let e = c.in_err-above.field-0.0 in
    let declared : Never (HasUndeclaredEntityTypes t f) = moved (λ t f. Never (HasUndeclaredEntityTypes t f))
    c.defs-defs.ensures c.requires.0 c.in_ok-check_declared_types.ensures.ok in
    let told : OrMemory hierarchies e = moved_thrice (λ t es ds. OrMemory (HierarchyFault t es ds) e)
    c.requires.1.1.0 c.requires.1.1.1.0 c.requires.1.1.1.1.0 c.in_err-above.ensures.err in
    refused (MeaningFault f table) c.from_residual-in_err-above.result e c.from_residual-in_err-above.ensures.1
    (or_behind (HasUndeclaredEntityTypes t f) (OrElse (TypeFault f table) hierarchies) declared e
    (or_behind (TypeFault f table) hierarchies c.in_ok-kinds.ensures.ok e told))

pub returns-clause-ok : goal.returns-clause-ok
returns-clause-ok g c =
    let f = c.args.names.now.fragment in
    let table = c.args.names.now.table in
    let t = tests_alone f table in
    let hierarchies = HierarchyFault t (declared_entities f) (declared_actions f) in
    let declared : Never (HasUndeclaredEntityTypes t f) = moved (λ t f. Never (HasUndeclaredEntityTypes t f))
    c.defs-defs.ensures c.requires.0 c.in_ok-check_declared_types.ensures.ok in
    let held : Never hierarchies = moved_thrice (λ t es ds. Never (HierarchyFault t es ds))
    c.requires.1.1.0 c.requires.1.1.1.0 c.requires.1.1.1.1.0 c.in_ok-above.ensures.ok in
    never_else (HasUndeclaredEntityTypes t f) (OrElse (TypeFault f table) hierarchies) declared
    (never_else (TypeFault f table) hierarchies c.in_ok-kinds.ensures.ok held)

pub returns-clause-parts : goal.returns-clause-parts
returns-clause-parts g c =
    let f = c.args.names.now.fragment in
    let table = c.args.names.now.table in
    let s = fragment_scope f table in
    let above_actions = c.in_ok-above.above_actions.items in
    record {
      entities = subst (λ f. AreEntities (declared_entities f) c.in_ok-entities.entities.items) c.requires.0
          c.in_ok-entities.ensures;
      actions = subst (λ f. AreActions (declared_actions f) c.in_ok-actions.actions.items) c.requires.0
          c.in_ok-actions.ensures;
      kinds = subst (λ es. AllZip (IsKindBuilt s) (map entity_of es) c.in_ok-kinds.kinds.items)
          c.deref.ensures.value c.in_ok-kinds.ensures.kinds;
      applied = subst (λ es. AllZip (IsActionKindBuilt (tests_alone f table) s) (map action_of_entry es)
          c.in_ok-kinds.applied.items)
          c.deref-2.ensures.value c.in_ok-kinds.ensures.applied;
      above = moved_thrice
          (λ t ds es. AreAncestorRows (IsAncestor t ds) (map (λ e. entity_name (entity_of e)) es)
          c.in_ok-above.above.items)
          c.requires.1.1.0 c.requires.1.1.1.0 c.deref-3.ensures.value c.in_ok-above.ensures.above;
      above_actions = moved_thrice
          (λ t ds es. AreAncestorRows (IsActionAncestor t ds) (map (λ e. action_key (action_of_entry e)) es)
          above_actions)
          c.requires.1.1.0 c.requires.1.1.1.1.0 c.deref-4.ensures.value c.in_ok-above.ensures.above_actions;
    }
