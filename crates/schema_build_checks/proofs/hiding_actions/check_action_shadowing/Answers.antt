use Rattle.std.proofs.lemmas.Grind.{common_steps}
use Rattle.std.proofs.Common.{◌∙◌, ap, inr, sym, subst, arith}
use Rattle.schema_resolve_definitions.specs.Tests.{tests_of}
use Rattle.schema_build_checks.specs.DeclaredAt.{at_of, actions_at_in_order, hiding_actions_in, hiding_actions}
use Rattle.schema_build_checks.specs.DeclaredTwice.{ActionHides}
use Rattle.schema_build_checks.specs.Least.{IsFirstLeast}
use Rattle.schema_build_checks.proofs.Leasts.{whole_given, least_seen}
use Rattle.schema_build_checks.proofs.hiding_actions.check_action_shadowing.Goals as goal

pub returns-in_ok-new-in-Some-clause-err : goal.returns-in_ok-new-in-Some-clause-err
returns-in_ok-new-in-Some-clause-err c =
    let f = c.args.fragment.now in
    let xs = c.as_slice-ns-items.result.now in
    let uid = c.in-Some.shadowing_def in
    let all = whole_given (hiding_actions_in (tests_of c.args.defs.now)) xs f.0 c.loop-ns.ns-index
    c.loop-ns-test.false c.as_slice-ns-items.ensures.entries in
    let is = c.loop-ns.invariant ∙ all ∙ ap (λ t. hiding_actions t f) c.requires in
    let least = least_seen at_of actions_at_in_order c.loop-ns.found.items uid c.in-Some.ensures in
    inr (subst (ActionHides f) (sym c.in_ok-new-in-Some.ensures) (
      subst (λ l. IsFirstLeast actions_at_in_order l (at_of uid)) is least,
      c.in_ok-shadowed_def-in-Some.ensures,
    ))

pub loop-ns-preserved : goal.loop-ns-preserved
loop-ns-preserved c = grind (arith, common_steps)

pub returns-in-None-clause-ok : goal.returns-in-None-clause-ok
returns-in-None-clause-ok c = grind (arith, common_steps)
