use Rattle.schema_json_walk.specs.Parts.{resource}
use Rattle.schema_json_walk.specs.Walk.{itself}
use Rattle.schema_json_walk.proofs.Visiting.{each_taken, each_stops, handed}
use Rattle.schema_json_walk.proofs.walk_items.walk_resources.Goals as goal

pub loop-name-preserved : goal.loop-name-preserved
loop-name-preserved g c =
    each_taken (g.V.Visitor.takes c.args.ns.now) (λ name. itself (resource name)) c.args.names.now
    c.loop-name.name-index c.name-item.result c.args.visitor.now c.loop-name.visitor c.meet.new.visitor
    c.loop-name-test.true c.name-item.is c.loop-name.invariant c.in_ok-meet.ensures.taken

pub returns-in_err-meet-clause-refused : goal.returns-in_err-meet-clause-refused
returns-in_err-meet-clause-refused g c =
    handed _ c.from_residual.result c.in_err-meet.field-0.0 c.from_residual.ensures.1
    (each_stops (g.V.Visitor.takes c.args.ns.now) (g.V.Visitor.refuses c.args.ns.now) (λ name. itself (resource name))
    c.args.names.now c.loop-name.name-index c.name-item.result c.args.visitor.now c.loop-name.visitor
    c.in_err-meet.field-0.0 c.loop-name-test.true c.name-item.is c.loop-name.invariant c.in_err-meet.ensures.refused)
