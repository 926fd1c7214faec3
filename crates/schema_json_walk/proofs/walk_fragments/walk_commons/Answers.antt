use Rattle.std.proofs.Common.{arith}
use Rattle.std.proofs.lemmas.Grind.{common_steps}
use Rattle.schema_json_walk.specs.Walk.{itself, of_common}
use Rattle.schema_json_walk.proofs.Visiting.{each_taken, each_stops, handed}
use Rattle.schema_json_walk.proofs.walk_fragments.walk_commons.Goals as goal

pub loop-common-preserved : goal.loop-common-preserved
loop-common-preserved g c =
    each_taken (g.V.Visitor.takes c.args.ns.now) (λ e. of_common itself e.1) c.args.entries.now
    c.loop-common.common-index c.loop-common-item.result c.args.visitor.now c.loop-common.visitor
    c.walk_common.new.visitor c.loop-common-test.true c.loop-common-item.is c.loop-common.invariant
    c.in_ok-walk_common.ensures.taken

pub returns-in_err-walk_common-clause-refused : goal.returns-in_err-walk_common-clause-refused
returns-in_err-walk_common-clause-refused g c =
    handed _ c.from_residual.result c.in_err-walk_common.field-0.0 c.from_residual.ensures.1
    (each_stops (g.V.Visitor.takes c.args.ns.now) (g.V.Visitor.refuses c.args.ns.now) (λ e. of_common itself e.1)
    c.args.entries.now c.loop-common.common-index c.loop-common-item.result c.args.visitor.now c.loop-common.visitor
    c.in_err-walk_common.field-0.0 c.loop-common-test.true c.loop-common-item.is c.loop-common.invariant
    c.in_err-walk_common.ensures.refused)

pub returns-clause-taken : goal.returns-clause-taken
returns-clause-taken g c = grind (arith, common_steps)
