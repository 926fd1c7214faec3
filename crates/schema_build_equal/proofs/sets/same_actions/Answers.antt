use Rattle.std.proofs.Common.{refl}
use Rattle.cedar_names.specs.Definitions.{action_of}
use Rattle.schema_build_equal.proofs.Keys.{actions_total, actions_exact, actions_equal, actions_once}
use Rattle.schema_build_equal.proofs.OneSet.{same_once, restated}
use Rattle.schema_build_equal.proofs.sets.same_actions.Goals as goal

pub returns : goal.returns
returns c =
    let a = c.args.a.now in
    let b = c.args.b.now in
    let one = same_once actions_total actions_exact action_of _ (actions_equal _ (λ i j. refl)) a b in
    restated _ _ _ _ _ _ c.are_one_set.ensures one (actions_once a) (actions_once b)
