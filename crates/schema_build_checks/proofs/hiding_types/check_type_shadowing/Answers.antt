use Rattle.std.proofs.lemmas.Grind.{common_steps}
use Rattle.std.proofs.Common.{◌∙◌, ap, inr, sym, subst, arith}
use Rattle.cedar_names.specs.Orders.{names_in_order}
use Rattle.schema_resolve_definitions.specs.Tests.{tests_of}
use Rattle.schema_build_checks.specs.DeclaredAt.{hiding_types_in, hiding_types}
use Rattle.schema_build_checks.specs.DeclaredTwice.{TypeHides}
use Rattle.schema_build_checks.specs.Least.{IsFirstLeast}
use Rattle.schema_build_checks.proofs.Leasts.{whole_given}
use Rattle.schema_build_checks.proofs.hiding_types.check_type_shadowing.Goals as goal

pub returns-in_ok-new-in-Some-clause-err : goal.returns-in_ok-new-in-Some-clause-err
returns-in_ok-new-in-Some-clause-err c =
    let f = c.args.fragment.now in
    let xs = c.as_slice-ns-items.result.now in
    let all = whole_given (hiding_types_in (tests_of c.args.defs.now)) xs f.0 c.loop-ns.ns-index c.loop-ns-test.false
    c.as_slice-ns-items.ensures.entries in
    let is = c.loop-ns.invariant ∙ all ∙ ap (λ t. hiding_types t f) c.requires in
    inr (subst (TypeHides f) (sym c.in_ok-new-in-Some.ensures) (
      subst (λ l. IsFirstLeast names_in_order l c.in-Some.shadowing_def) is c.in-Some.ensures,
      c.in_ok-shadowed_def-in-Some.ensures,
    ))

pub loop-ns-preserved : goal.loop-ns-preserved
loop-ns-preserved c = grind (arith, common_steps)

pub returns-in-None-clause-ok : goal.returns-in-None-clause-ok
returns-in-None-clause-ok c = grind (arith, common_steps)
