use Rattle.std.proofs.Common.{codes, refl, ap}
use Rattle.std.proofs.lemmas.Result.{on_ok_weaker}
use Rattle.cedar_data.specs.Rows.{joined_by}
use Rattle.schema_build_text.specs.Growing.{so}
use Rattle.schema_build_text.proofs.Rowed.{names_shown, names_go}
use Rattle.schema_build_text.proofs.rows.push_names.Goals as goal

pub returns : goal.returns
returns c =
    on_ok_weaker c.push_in_order.result
    (λ e. so e (ap (joined_by (codes ", ")) (names_shown _ (names_go _ (λ x y. refl)) c.args.names.now))) c.push_in_order.ensures
