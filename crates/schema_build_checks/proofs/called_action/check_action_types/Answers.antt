use Rattle.std.proofs.lemmas.Grind.{common_steps}
use Rattle.std.proofs.Common.{◌∙◌, inr, refl, sym, subst, arith}
use Rattle.std.specs.List.{flat_map}
use Rattle.cedar_names.specs.Orders.{names_in_order}
use Rattle.schema_build_checks.specs.DeclaredAt.{called_action}
use Rattle.schema_build_checks.specs.DeclaredTwice.{ActionTypeDeclared}
use Rattle.schema_build_checks.specs.Least.{IsFirstLeast}
use Rattle.schema_build_checks.proofs.Leasts.{whole_given}
use Rattle.schema_build_checks.proofs.called_action.check_action_types.Goals as goal

pub returns-in_ok-new-in-Some-clause-err : goal.returns-in_ok-new-in-Some-clause-err
returns-in_ok-new-in-Some-clause-err c =
    let xs = c.as_slice-ns-items.result.now in
    let all = whole_given (λ e. flat_map (called_action e.0) e.1.entity_types) xs _ c.loop-ns.ns-index
    c.loop-ns-test.false c.as_slice-ns-items.ensures.entries in
    inr (subst (ActionTypeDeclared c.args.fragment.now) (sym c.in_ok-new-in-Some.ensures) (
      c.in-Some.name,
      subst (λ l. IsFirstLeast names_in_order l c.in-Some.name) (c.loop-ns.invariant ∙ all)
          c.in-Some.ensures,
      refl,
    ))

pub loop-ns-preserved : goal.loop-ns-preserved
loop-ns-preserved c = grind (arith, common_steps)

pub returns-in-None-clause-ok : goal.returns-in-None-clause-ok
returns-in-None-clause-ok c = grind (arith, common_steps)
