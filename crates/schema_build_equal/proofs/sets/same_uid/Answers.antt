use Rattle.std.proofs.Common.{refl}
use Rattle.schema_build_equal.proofs.Keys.{actions_equal}
use Rattle.schema_build_equal.proofs.OneSet.{restated}
use Rattle.schema_build_equal.proofs.sets.same_uid.Goals as goal

pub returns : goal.returns
returns c =
    restated _ _ _ _ _ _ c.eq.ensures (actions_equal _ (λ i j. refl) c.args.a.now c.args.b.now) refl refl
