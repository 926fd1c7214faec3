use Rattle.schema_json_walk.proofs.Visiting.{err_front, err_behind, ok_then}
use Rattle.schema_json_walk.proofs.walk_fragments.walk_namespace.Goals as goal

pub returns-in_err-walk_commons-clause-refused : goal.returns-in_err-walk_commons-clause-refused
returns-in_err-walk_commons-clause-refused g c =
    rw (← c.as_slice.ensures.entries)
    (err_front (g.V.Visitor.takes c.args.ns.now) (g.V.Visitor.refuses c.args.ns.now) _ _ c.from_residual.result
    c.args.visitor.now c.in_err-walk_commons.field-0.0 c.from_residual.ensures.1 c.in_err-walk_commons.ensures.refused)

pub returns-in_err-walk_entities-clause-refused : goal.returns-in_err-walk_entities-clause-refused
returns-in_err-walk_entities-clause-refused g c =
    let r = c.from_residual-in_err-walk_entities in
    rw (← c.as_slice.ensures.entries, ← c.as_slice-2.ensures.entries)
    (err_behind (g.V.Visitor.takes c.args.ns.now) (g.V.Visitor.refuses c.args.ns.now) _ _ r.result c.args.visitor.now
    c.walk_commons.new.visitor c.in_ok-walk_commons.ensures.taken
    (err_front (g.V.Visitor.takes c.args.ns.now) (g.V.Visitor.refuses c.args.ns.now) _ _ r.result
    c.walk_commons.new.visitor c.in_err-walk_entities.field-0.0 r.ensures.1 c.in_err-walk_entities.ensures.refused))

pub returns-clause-taken : goal.returns-clause-taken
returns-clause-taken g c =
    let r = c.walk_actions.result in
    rw (← c.as_slice.ensures.entries, ← c.as_slice-2.ensures.entries, ← c.as_slice-3.ensures.entries)
    (ok_then (g.V.Visitor.takes c.args.ns.now) (g.V.Visitor.refuses c.args.ns.now) _ _ r c.args.visitor.now
    c.walk_commons.new.visitor c.walk_actions.new.visitor c.in_ok-walk_commons.ensures.taken
    (ok_then (g.V.Visitor.takes c.args.ns.now) (g.V.Visitor.refuses c.args.ns.now) _ _ r c.walk_commons.new.visitor
    c.walk_entities.new.visitor c.walk_actions.new.visitor c.in_ok-walk_entities.ensures.taken
    c.walk_actions.ensures.taken))

pub returns-clause-refused : goal.returns-clause-refused
returns-clause-refused g c =
    let r = c.walk_actions.result in
    rw (← c.as_slice.ensures.entries, ← c.as_slice-2.ensures.entries, ← c.as_slice-3.ensures.entries)
    (err_behind (g.V.Visitor.takes c.args.ns.now) (g.V.Visitor.refuses c.args.ns.now) _ _ r c.args.visitor.now
    c.walk_commons.new.visitor c.in_ok-walk_commons.ensures.taken
    (err_behind (g.V.Visitor.takes c.args.ns.now) (g.V.Visitor.refuses c.args.ns.now) _ _ r c.walk_commons.new.visitor
    c.walk_entities.new.visitor c.in_ok-walk_entities.ensures.taken c.walk_actions.ensures.refused))
