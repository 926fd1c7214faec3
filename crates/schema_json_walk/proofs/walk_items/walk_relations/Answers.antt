use Rattle.schema_json_walk.proofs.Visiting.{err_front, err_behind, ok_then}
use Rattle.schema_json_walk.proofs.walk_items.walk_relations.Goals as goal

pub returns-in_err-walk_action_parents-clause-refused : goal.returns-in_err-walk_action_parents-clause-refused
returns-in_err-walk_action_parents-clause-refused g c =
    err_front (g.V.Visitor.takes c.args.ns.now) (g.V.Visitor.refuses c.args.ns.now) _ _ c.from_residual.result
    c.args.visitor.now c.in_err-walk_action_parents.field-0.0 c.from_residual.ensures.1
    c.in_err-walk_action_parents.ensures.refused

pub returns-clause-taken : goal.returns-clause-taken
returns-clause-taken g c =
    ok_then (g.V.Visitor.takes c.args.ns.now) (g.V.Visitor.refuses c.args.ns.now) _ _ c.walk_application.result
    c.args.visitor.now c.walk_action_parents.new.visitor c.walk_application.new.visitor
    c.in_ok-walk_action_parents.ensures.taken c.walk_application.ensures.taken

pub returns-clause-refused : goal.returns-clause-refused
returns-clause-refused g c =
    err_behind (g.V.Visitor.takes c.args.ns.now) (g.V.Visitor.refuses c.args.ns.now) _ _ c.walk_application.result
    c.args.visitor.now c.walk_action_parents.new.visitor c.in_ok-walk_action_parents.ensures.taken
    c.walk_application.ensures.refused
