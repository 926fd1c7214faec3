use Rattle.std.proofs.Common.{refl, ap}
use Rattle.std.proofs.lemmas.Result.{on_ok_weaker}
use Rattle.std.specs.Ordering.{ordering_then}
use Rattle.cedar_data.specs.Text.{text_cmp}
use Rattle.cedar_names.specs.CanonicalText.{parents_text}
use Rattle.schema_build_text.specs.Growing.{so}
use Rattle.schema_build_text.proofs.Rowed.{actions_shown, names_go}
use Rattle.schema_build_text.proofs.rows.push_action_parents.Goals as goal

pub returns : goal.returns
returns c =
    on_ok_weaker c.push_parents.result
    (λ e. so e (ap parents_text (actions_shown _
    (λ x y. ap (λ o. ordering_then o (text_cmp x.eid.0 y.eid.0)) (names_go _ (λ a b. refl) x.ty y.ty))
    c.args.actions.now))) c.push_parents.ensures
