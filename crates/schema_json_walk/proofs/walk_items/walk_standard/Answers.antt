use Rattle.schema_json_walk.proofs.Visiting.{err_front, err_behind, ok_then}
use Rattle.schema_json_walk.proofs.walk_items.walk_standard.Goals as goal

pub returns-in_err-walk_parents-clause-refused : goal.returns-in_err-walk_parents-clause-refused
returns-in_err-walk_parents-clause-refused g c =
    rw (← c.as_slice.ensures) (err_front (g.V.Visitor.takes c.args.ns.now) (g.V.Visitor.refuses c.args.ns.now) _ _
    c.from_residual.result c.args.visitor.now c.in_err-walk_parents.field-0.0 c.from_residual.ensures.1
    c.in_err-walk_parents.ensures.refused)

pub returns-in_err-walk_type-clause-refused : goal.returns-in_err-walk_type-clause-refused
returns-in_err-walk_type-clause-refused g c =
    let r = c.from_residual-in_err-walk_type in
    rw (← c.as_slice.ensures) (err_behind (g.V.Visitor.takes c.args.ns.now) (g.V.Visitor.refuses c.args.ns.now) _ _
    r.result c.args.visitor.now c.walk_parents.new.visitor c.in_ok-walk_parents.ensures.taken
    (err_front (g.V.Visitor.takes c.args.ns.now) (g.V.Visitor.refuses c.args.ns.now) _ _ r.result
    c.walk_parents.new.visitor c.in_err-walk_type.field-0.0 r.ensures.1 c.in_err-walk_type.ensures.refused))

pub returns-clause-taken : goal.returns-clause-taken
returns-clause-taken g c =
    let r = c.walk_tags.result in
    rw (← c.as_slice.ensures) (ok_then (g.V.Visitor.takes c.args.ns.now) (g.V.Visitor.refuses c.args.ns.now) _ _ r
    c.args.visitor.now c.walk_parents.new.visitor c.walk_tags.new.visitor c.in_ok-walk_parents.ensures.taken
    (ok_then (g.V.Visitor.takes c.args.ns.now) (g.V.Visitor.refuses c.args.ns.now) _ _ r c.walk_parents.new.visitor
    c.walk_type.new.visitor c.walk_tags.new.visitor c.in_ok-walk_type.ensures.taken c.walk_tags.ensures.taken))

pub returns-clause-refused : goal.returns-clause-refused
returns-clause-refused g c =
    let r = c.walk_tags.result in
    rw (← c.as_slice.ensures) (err_behind (g.V.Visitor.takes c.args.ns.now) (g.V.Visitor.refuses c.args.ns.now) _ _ r
    c.args.visitor.now c.walk_parents.new.visitor c.in_ok-walk_parents.ensures.taken
    (err_behind (g.V.Visitor.takes c.args.ns.now) (g.V.Visitor.refuses c.args.ns.now) _ _ r c.walk_parents.new.visitor
    c.walk_type.new.visitor c.in_ok-walk_type.ensures.taken c.walk_tags.ensures.refused))
