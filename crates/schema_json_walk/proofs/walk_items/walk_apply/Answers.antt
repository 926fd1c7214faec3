use Rattle.schema_json_walk.proofs.Visiting.{err_front, err_behind, ok_then}
use Rattle.schema_json_walk.proofs.walk_items.walk_apply.Goals as goal

pub returns-in_err-walk_principals-clause-refused : goal.returns-in_err-walk_principals-clause-refused
returns-in_err-walk_principals-clause-refused g c =
    rw (← c.as_slice.ensures) (err_front (g.V.Visitor.takes c.args.ns.now) (g.V.Visitor.refuses c.args.ns.now) _ _
    c.from_residual.result c.args.visitor.now c.in_err-walk_principals.field-0.0 c.from_residual.ensures.1
    c.in_err-walk_principals.ensures.refused)

pub returns-in_err-walk_resources-clause-refused : goal.returns-in_err-walk_resources-clause-refused
returns-in_err-walk_resources-clause-refused g c =
    let r = c.from_residual-in_err-walk_resources in
    rw (← c.as_slice.ensures, ← c.as_slice-2.ensures)
    (err_behind (g.V.Visitor.takes c.args.ns.now) (g.V.Visitor.refuses c.args.ns.now) _ _ r.result c.args.visitor.now
    c.walk_principals.new.visitor c.in_ok-walk_principals.ensures.taken
    (err_front (g.V.Visitor.takes c.args.ns.now) (g.V.Visitor.refuses c.args.ns.now) _ _ r.result
    c.walk_principals.new.visitor c.in_err-walk_resources.field-0.0 r.ensures.1
    c.in_err-walk_resources.ensures.refused))

pub returns-clause-taken : goal.returns-clause-taken
returns-clause-taken g c =
    let r = c.walk_context.result in
    rw (← c.as_slice.ensures, ← c.as_slice-2.ensures)
    (ok_then (g.V.Visitor.takes c.args.ns.now) (g.V.Visitor.refuses c.args.ns.now) _ _ r c.args.visitor.now
    c.walk_principals.new.visitor c.walk_context.new.visitor c.in_ok-walk_principals.ensures.taken
    (ok_then (g.V.Visitor.takes c.args.ns.now) (g.V.Visitor.refuses c.args.ns.now) _ _ r c.walk_principals.new.visitor
    c.walk_resources.new.visitor c.walk_context.new.visitor c.in_ok-walk_resources.ensures.taken
    c.walk_context.ensures.taken))

pub returns-clause-refused : goal.returns-clause-refused
returns-clause-refused g c =
    let r = c.walk_context.result in
    rw (← c.as_slice.ensures, ← c.as_slice-2.ensures)
    (err_behind (g.V.Visitor.takes c.args.ns.now) (g.V.Visitor.refuses c.args.ns.now) _ _ r c.args.visitor.now
    c.walk_principals.new.visitor c.in_ok-walk_principals.ensures.taken
    (err_behind (g.V.Visitor.takes c.args.ns.now) (g.V.Visitor.refuses c.args.ns.now) _ _ r
    c.walk_principals.new.visitor c.walk_resources.new.visitor c.in_ok-walk_resources.ensures.taken
    c.walk_context.ensures.refused))
