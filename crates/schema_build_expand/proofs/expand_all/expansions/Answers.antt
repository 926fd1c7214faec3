use Rattle.std.proofs.Common.{◌≡◌, ◌<◌, length, ap, subst, arith, All, Contains}
use Rattle.schema_build_graph.specs.Order.{IsOrder, NoneCyclic, StandBehind}
use Rattle.schema_build_expand.specs.Commons.{IsDone}
use Rattle.schema_build_expand.specs.Rows.{IsCycleFault}
use Rattle.schema_build_expand.proofs.Linked.{in_range, behind, cycle_fault, none_round, refused}
use Rattle.schema_build_expand.proofs.Used.{uses_ready}
use Rattle.schema_build_expand.proofs.expand_all.expansions.Goals as goal

pub order_or_least-requires : goal.order_or_least-requires
order_or_least-requires g c =
    rw c.deref.ensures.value (in_range g.s g.R.Meanings.place c.args.commons.now c.in_ok-rows.rows.items
    c.in_ok-rows.ensures c.requires.1.1.1.0)

pub returns-in_err-order-clause-fault : goal.returns-in_err-order-clause-fault
returns-in_err-order-clause-fault g c =
    refused (IsCycleFault g.s g.R.Meanings.place c.args.commons.now) c.from_residual-in_err-order.result
    c.in_err-order.field-0.0 c.from_residual-in_err-order.ensures.1
    (cycle_fault g.s g.R.Meanings.place c.args.commons.now c.in_ok-rows.rows.items c.in_ok-rows.ensures
    c.in_err-order.field-0.0 (rw (← c.deref.ensures.value) c.in_err-order.ensures.fault))

pub needed-requires-clause-graph : goal.needed-requires-clause-graph
needed-requires-clause-graph g c =
    rw c.deref-2.ensures.value (in_range g.s g.R.Meanings.place c.args.commons.now c.in_ok-rows.rows.items
    c.in_ok-rows.ensures c.requires.1.1.1.0)

pub needed-requires-clause-order : goal.needed-requires-clause-order
needed-requires-clause-order g c =
    let o : IsOrder c.in_ok-rows.rows.items c.in_ok-order.order.items =
    rw (← c.deref.ensures.value) c.in_ok-order.ensures.order in
    rw (c.deref-2.ensures.value, c.deref-3.ensures.value) o

pub needed-requires-clause-roots : goal.needed-requires-clause-roots
needed-requires-clause-roots g c =
    let same : length g.s.commons ≡ length c.deref-2.result.now =
    omega (arith, c.requires.1.1.1.0, c.in_ok-rows.ensures.same, ap length c.deref-2.ensures.value) in
    rw c.deref-4.ensures.value (subst (λ n. All (λ v. v < n) c.in_ok-roots.roots.items) same
    c.in_ok-roots.ensures.below)

pub expand_commons-requires : goal.expand_commons-requires
expand_commons-requires g c κs within =
    let rows = c.in_ok-rows.rows.items in
    let wanted = c.in_ok-wanted.wanted.items in
    let same : length c.deref-2.result.now ≡ length c.args.commons.now =
    omega (arith, c.in_ok-rows.ensures.same, ap length c.deref-2.ensures.value) in
    let stand : StandBehind rows wanted =
    subst (λ rows. StandBehind rows wanted) c.deref-2.ensures.value c.in_ok-wanted.ensures.behind in (
      within.0,
      (
        within.1,
        (
          c.requires.1.1.0,
          (
            rw c.deref-5.ensures.value (subst (λ n. All (λ v. v < n) wanted) same c.in_ok-wanted.ensures.below),
            rw c.deref-5.ensures.value (behind g.s g.R.Meanings.place c.args.commons.now rows c.in_ok-rows.ensures
                wanted stand c.requires.1.1.1.1.0),
          ),
        ),
      ),
    )

pub returns-clause-ready : goal.returns-clause-ready
returns-clause-ready g c =
    let wanted = c.in_ok-wanted.wanted.items in
    let done = c.in_ok-expand_commons.field-0.items in
    uses_ready g.s g.R.Meanings.place c.args.uses.now c.in_ok-roots.roots.items wanted done c.requires.1.1.1.1.1.1
    c.in_ok-roots.ensures.whole (subst (All (Contains wanted)) c.deref-4.ensures.value c.in_ok-wanted.ensures.roots)
    (subst (All (IsDone done)) c.deref-5.ensures.value c.in_ok-expand_commons.ensures.whole)

pub returns-clause-acyclic : goal.returns-clause-acyclic
returns-clause-acyclic g c =
    none_round g.s g.R.Meanings.place c.args.commons.now c.in_ok-rows.rows.items c.in_ok-rows.ensures
    (subst NoneCyclic c.deref.ensures.value c.in_ok-order.ensures.acyclic)
