use Rattle.std.proofs.Common.{refl}
use Rattle.schema_build_equal.proofs.Keys.{names_equal}
use Rattle.schema_build_equal.proofs.OneSet.{restated}
use Rattle.schema_build_equal.proofs.sets.same_name.Goals as goal

pub returns : goal.returns
returns c =
    restated _ _ _ _ _ _ c.eq.ensures (names_equal _ (λ i j. refl) c.args.a.now.name c.args.b.now.name) refl refl
