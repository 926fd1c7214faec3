use Rattle.schema_json_walk.specs.Walk.{itself, of_action}
use Rattle.schema_json_walk.proofs.Visiting.{each_taken, each_stops, handed}
use Rattle.schema_json_walk.proofs.walk_fragments.walk_actions.Goals as goal

pub loop-action-preserved : goal.loop-action-preserved
loop-action-preserved g c =
    each_taken (g.V.Visitor.takes c.args.ns.now) (λ e. of_action itself e.1) c.args.entries.now
    c.loop-action.action-index c.loop-action-item.result c.args.visitor.now c.loop-action.visitor
    c.walk_action.new.visitor c.loop-action-test.true c.loop-action-item.is c.loop-action.invariant
    c.in_ok-walk_action.ensures.taken

pub returns-in_err-walk_action-clause-refused : goal.returns-in_err-walk_action-clause-refused
returns-in_err-walk_action-clause-refused g c =
    handed _ c.from_residual.result c.in_err-walk_action.field-0.0 c.from_residual.ensures.1
    (each_stops (g.V.Visitor.takes c.args.ns.now) (g.V.Visitor.refuses c.args.ns.now) (λ e. of_action itself e.1)
    c.args.entries.now c.loop-action.action-index c.loop-action-item.result c.args.visitor.now c.loop-action.visitor
    c.in_err-walk_action.field-0.0 c.loop-action-test.true c.loop-action-item.is c.loop-action.invariant
    c.in_err-walk_action.ensures.refused)
