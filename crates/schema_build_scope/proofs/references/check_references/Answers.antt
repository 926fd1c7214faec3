use Rattle.std.proofs.Common.{◌≡◌, sym, ap, ◌∙◌, subst, inl, inr}
use Rattle.schema_resolve_targets.specs.Gathered.{uids}
use Rattle.schema_resolve_targets.specs.Untargeted.{undefined}
use Rattle.schema_resolve_targets.specs.Undefined.{types_among, actions_among}
use Rattle.schema_build_scope.specs.UndefinedRows.{undefined_alone, HasUndefinedTypes, HasUndefinedActions}
use Rattle.schema_build_scope.proofs.UndefinedNames.{never_types, never_actions, not_empty, uids_not_empty}
use Rattle.schema_build_scope.proofs.references.check_references.Goals as goal

pub returns-in-Some-clause-err : goal.returns-in-Some-clause-err
returns-in-Some-clause-err c =
    let types : c.in_ok-found.found.types.items
    ≡ types_among (undefined_alone c.args.names.now.fragment c.args.names.now.table) =
    c.in_ok-found.ensures.types ∙ (λ i. types_among (undefined (c.defs.ensures i) (c.fragment.ensures i))) in
    let named = c.in-Some.ensures.some.0 ∙ types in
    let names = c.args.names.now in
    inr (inl (subst (HasUndefinedTypes names.fragment names.table) (sym c.in_ok-new.ensures)
    (named, not_empty c.in-Some.undefined_types _ named c.in-Some.ensures.some.1)))

pub returns-in_ok-new-in-Some-from_vec-clause-err : goal.returns-in_ok-new-in-Some-from_vec-clause-err
returns-in_ok-new-in-Some-from_vec-clause-err c =
    let found = undefined_alone c.args.names.now.fragment c.args.names.now.table in
    let types : c.in_ok-found.found.types.items ≡ types_among found =
    c.in_ok-found.ensures.types ∙ (λ i. types_among (undefined (c.defs.ensures i) (c.fragment.ensures i))) in
    let actions : uids c.in_ok-found.found.actions.items ≡ actions_among found =
    c.in_ok-found.ensures.actions ∙ (λ i. actions_among (undefined (c.defs.ensures i) (c.fragment.ensures i))) in
    let named = ap uids c.in-Some-from_vec.ensures.some.0 ∙ actions in
    let names = c.args.names.now in
    inr (inr (
      never_types found (sym types ∙ c.in_default.ensures.none),
      subst (HasUndefinedActions names.fragment names.table) (sym c.in_ok-new-in-Some-from_vec.ensures)
          (named, uids_not_empty c.in-Some-from_vec.uids (actions_among found) named c.in-Some-from_vec.ensures.some.1),
    ))

pub returns-in-None-clause-types : goal.returns-in-None-clause-types
returns-in-None-clause-types c =
    let found = undefined_alone c.args.names.now.fragment c.args.names.now.table in
    let types : c.in_ok-found.found.types.items ≡ types_among found =
    c.in_ok-found.ensures.types ∙ (λ i. types_among (undefined (c.defs.ensures i) (c.fragment.ensures i))) in
    never_types found (sym types ∙ c.in_default.ensures.none)

pub returns-in-None-clause-actions : goal.returns-in-None-clause-actions
returns-in-None-clause-actions c =
    let found = undefined_alone c.args.names.now.fragment c.args.names.now.table in
    let actions : uids c.in_ok-found.found.actions.items ≡ actions_among found =
    c.in_ok-found.ensures.actions ∙ (λ i. actions_among (undefined (c.defs.ensures i) (c.fragment.ensures i))) in
    never_actions found (sym actions ∙ ap uids c.in-None.ensures.none)
