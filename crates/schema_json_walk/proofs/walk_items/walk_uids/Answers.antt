use Rattle.std.proofs.Common.{arith}
use Rattle.std.proofs.lemmas.Grind.{common_steps}
use Rattle.schema_json_walk.specs.Walk.{itself, of_uid}
use Rattle.schema_json_walk.proofs.Visiting.{each_taken, each_stops, handed}
use Rattle.schema_json_walk.proofs.walk_items.walk_uids.Goals as goal

pub loop-uid-preserved : goal.loop-uid-preserved
loop-uid-preserved g c =
    each_taken (g.V.Visitor.takes c.args.ns.now) (of_uid itself) c.args.uids.now c.loop-uid.uid-index
    c.uid-item.result c.args.visitor.now c.loop-uid.visitor c.meet.new.visitor c.loop-uid-test.true c.uid-item.is
    c.loop-uid.invariant c.in_ok-meet.ensures.taken

pub returns-in_err-meet-clause-refused : goal.returns-in_err-meet-clause-refused
returns-in_err-meet-clause-refused g c =
    handed _ c.from_residual.result c.in_err-meet.field-0.0 c.from_residual.ensures.1
    (each_stops (g.V.Visitor.takes c.args.ns.now) (g.V.Visitor.refuses c.args.ns.now) (of_uid itself) c.args.uids.now
    c.loop-uid.uid-index c.uid-item.result c.args.visitor.now c.loop-uid.visitor c.in_err-meet.field-0.0
    c.loop-uid-test.true c.uid-item.is c.loop-uid.invariant c.in_err-meet.ensures.refused)

pub returns-clause-taken : goal.returns-clause-taken
returns-clause-taken g c = grind (arith, common_steps)
