use Rattle.schema_json_walk.specs.Walk.{itself, of_entity}
use Rattle.schema_json_walk.proofs.Visiting.{each_taken, each_stops, handed}
use Rattle.schema_json_walk.proofs.walk_fragments.walk_entities.Goals as goal

pub loop-entity-preserved : goal.loop-entity-preserved
loop-entity-preserved g c =
    each_taken (g.V.Visitor.takes c.args.ns.now) (λ e. of_entity itself e.1) c.args.entries.now
    c.loop-entity.entity-index c.loop-entity-item.result c.args.visitor.now c.loop-entity.visitor
    c.walk_entity.new.visitor c.loop-entity-test.true c.loop-entity-item.is c.loop-entity.invariant
    c.in_ok-walk_entity.ensures.taken

pub returns-in_err-walk_entity-clause-refused : goal.returns-in_err-walk_entity-clause-refused
returns-in_err-walk_entity-clause-refused g c =
    handed _ c.from_residual.result c.in_err-walk_entity.field-0.0 c.from_residual.ensures.1
    (each_stops (g.V.Visitor.takes c.args.ns.now) (g.V.Visitor.refuses c.args.ns.now) (λ e. of_entity itself e.1)
    c.args.entries.now c.loop-entity.entity-index c.loop-entity-item.result c.args.visitor.now c.loop-entity.visitor
    c.in_err-walk_entity.field-0.0 c.loop-entity-test.true c.loop-entity-item.is c.loop-entity.invariant
    c.in_err-walk_entity.ensures.refused)
