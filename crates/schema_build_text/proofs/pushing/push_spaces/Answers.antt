use Rattle.std.proofs.Common.{◌-◌, arith}
use Rattle.cedar_names.specs.CanonicalText.{spaces}
use Rattle.schema_build_text.specs.Growing.{begun, round}
use Rattle.schema_build_text.proofs.Bytes.{spaces_step}
use Rattle.schema_build_text.proofs.pushing.push_spaces.Goals as goal

pub loop-left-init : goal.loop-left-init
loop-left-init c = begun c.args.text.now (spaces c.args.count)

pub loop-left-preserved : goal.loop-left-preserved
loop-left-preserved c = round c.in_ok-push.ensures c.loop-left.invariant
    (spaces_step c.loop-left.left (c.loop-left.left - 4) (omega arith))
