use Rattle.std.proofs.lemmas.List.{at_drop_all}
use Rattle.schema_build_text.specs.Growing.{then, so, begun, round, adds_all}
use Rattle.schema_build_text.proofs.Named.{behind_text, behind_step, path_text}
use Rattle.schema_build_text.proofs.names.push_path.Goals as goal

pub loop-id-init : goal.loop-id-init
loop-id-init c = begun c.push.new.text _

pub loop-id-preserved : goal.loop-id-preserved
loop-id-preserved c =
    round (then c.in_ok-push-2.ensures (so c.in_ok-push-3.ensures c.as_str-in-loop-id.ensures)) c.loop-id.invariant
    (behind_step c.args.others.now c.loop-id.id-index c.id-item.result c.loop-id-test.true c.id-item.is)

pub returns : goal.returns
returns c =
    so
    (then (so c.in_ok-push.ensures c.as_str.ensures)
    (adds_all c.loop-id.invariant (at_drop_all behind_text c.args.others.now c.loop-id.id-index c.loop-id-test.false)))
    (path_text c.args.first.now c.args.others.now)
