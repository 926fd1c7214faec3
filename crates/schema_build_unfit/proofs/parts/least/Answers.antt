use Rattle.std.proofs.Common.{◌+◌, ◌≡◌, sym, subst, ◌∙◌}
use Rattle.cedar_names.specs.Orders.{names_in_order}
use Rattle.schema_build_unfit.proofs.Least.{IsLeastSoFar, least_at_first, least_taken, least_kept, not_less}
use Rattle.schema_build_unfit.proofs.parts.least.Goals.{in-Less, in-Equal}
use Rattle.schema_build_unfit.proofs.parts.least.Goals as goal

pub loop-name-init : goal.loop-name-init
loop-name-init c = least_at_first c.args.first.now c.args.others.now

pub loop-name-preserved : goal.loop-name-preserved
loop-name-preserved c =
    let first = c.args.first.now in
    let others = c.args.others.now in
    let i = c.loop-name.name-index in
    let least = c.loop-name.least.now in
    let got = c.get-name.ensures in
    let seen = subst (λ n. c.cmp.result ≡ names_in_order n.name least.name) got c.cmp.ensures in
    elim c.match-cmp.branch [
      | in-Less w ↦ subst (λ b. IsLeastSoFar first others (i + 1) b.now) (sym w.least-is)
          (subst (IsLeastSoFar first others (i + 1)) (sym got)
          (least_taken first others i least c.name-item.result c.loop-name-test.true c.name-item.is
          (sym seen ∙ w.in-Less.is) c.loop-name.invariant))
      | in-Equal w ↦ subst (λ b. IsLeastSoFar first others (i + 1) b.now) (sym w.least-is)
          (least_kept first others i least c.name-item.result c.loop-name-test.true c.name-item.is
          (not_less (names_in_order c.name-item.result.name least.name) c.cmp.result seen w.in-Equal.is)
          c.loop-name.invariant)
    ]
