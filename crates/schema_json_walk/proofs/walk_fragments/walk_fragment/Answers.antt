use Rattle.std.proofs.Common.{[], ◌∷◌}
use Rattle.std.specs.Prelude.{Option}
use Rattle.cedar_identifiers.specs.declared.name.Name.{Name}
use Rattle.schema_json_walk.specs.Parts.{Part}
use Rattle.schema_json_walk.specs.Visits.{takes_placed, refuses_placed}
use Rattle.schema_json_walk.specs.Walk.{of_entry}
use Rattle.schema_json_walk.proofs.Placed.{namespace_placed, namespace_stops}
use Rattle.schema_json_walk.proofs.Visiting.{each_taken, each_stops, handed}
use Rattle.schema_json_walk.proofs.walk_fragments.walk_fragment.Goals as goal

pub loop-ns-preserved : goal.loop-ns-preserved
loop-ns-preserved g c =
    let it = c.loop-ns-item.result in
    let at = c.loop-ns.visitor in
    each_taken (takes_placed g.V.Visitor.takes)
    (of_entry (λ ns part. let placed : Option Name × Part g.row.N.Denot = (ns, part) in placed ∷ []))
    c.as_slice-ns-items.result.now c.loop-ns.ns-index it c.args.visitor.now at c.walk_namespace.new.visitor
    c.loop-ns-test.true c.loop-ns-item.is c.loop-ns.invariant
    (namespace_placed g.V.Visitor.takes g.V.Visitor.refuses it.0 it.1 at c.walk_namespace.new.visitor
    c.in_ok-walk_namespace.ensures.taken)

pub returns-in_err-walk_namespace-clause-refused : goal.returns-in_err-walk_namespace-clause-refused
returns-in_err-walk_namespace-clause-refused g c =
    let it = c.loop-ns-item.result in
    let at = c.loop-ns.visitor in
    let e = c.in_err-walk_namespace.field-0.0 in
    handed _ c.from_residual.result e c.from_residual.ensures.1
    (rw (← c.as_slice-ns-items.ensures.entries)
    (each_stops (takes_placed g.V.Visitor.takes) (refuses_placed g.V.Visitor.refuses)
    (of_entry (λ ns part. let placed : Option Name × Part g.row.N.Denot = (ns, part) in placed ∷ []))
    c.as_slice-ns-items.result.now c.loop-ns.ns-index it c.args.visitor.now at e c.loop-ns-test.true c.loop-ns-item.is
    c.loop-ns.invariant
    (namespace_stops g.V.Visitor.takes g.V.Visitor.refuses it.0 it.1 at e c.in_err-walk_namespace.ensures.refused)))
