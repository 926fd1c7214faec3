use Rattle.std.proofs.Common.{Some, None, subst}
use Rattle.schema_build_graph.specs.Search.{IsFirstCyclic}
use Rattle.schema_build_graph.proofs.Ends.{least_told, none_told, ordered}
use Rattle.schema_build_graph.proofs.cycles.order_or_least.Goals as goal

pub returns-in-Some-clause-fault : goal.returns-in-Some-clause-fault
returns-in-Some-clause-fault c =
    let s = c.in_ok-search.search in
    let e = c.in_ok-search.ensures in
    let first : IsFirstCyclic s.states.items (Some c.in-Some.least) = subst
    (λ st. IsFirstCyclic st (Some c.in-Some.least)) c.deref.ensures.value c.in-Some.ensures in
    least_told c.args.graph.now s.states.items s.standing.items s.targets.items s.groups.items s.done.items e.searched
    e.idle e.whole c.in-Some.least first.0 first.1 first.2

pub returns-in-None-clause-order : goal.returns-in-None-clause-order
returns-in-None-clause-order c =
    let s = c.in_ok-search.search in
    let e = c.in_ok-search.ensures in
    ordered c.args.graph.now s.states.items s.standing.items s.targets.items s.groups.items s.done.items e.searched
    e.idle e.whole
    (subst (λ st. IsFirstCyclic st None) c.deref.ensures.value c.in-None.ensures)

pub returns-in-None-clause-acyclic : goal.returns-in-None-clause-acyclic
returns-in-None-clause-acyclic c =
    let s = c.in_ok-search.search in
    let e = c.in_ok-search.ensures in
    none_told c.args.graph.now s.states.items s.standing.items s.targets.items s.groups.items s.done.items e.searched
    e.idle e.whole
    (subst (λ st. IsFirstCyclic st None) c.deref.ensures.value c.in-None.ensures)
