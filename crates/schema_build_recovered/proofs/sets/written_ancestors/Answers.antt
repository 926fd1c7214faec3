use Rattle.std.proofs.Common.{refl}
use Rattle.std.proofs.lemmas.Result.{IfOk-weaker}
use Rattle.schema_build_text.proofs.Rowed.{names_go}
use Rattle.schema_build_recovered.proofs.Rows.{names_written}
use Rattle.schema_build_recovered.proofs.sets.written_ancestors.Goals as goal

pub returns : goal.returns
returns c =
    IfOk-weaker c.recovered_in_order.result _ _
    (names_written _ (names_go _ (λ x y. refl)) c.args.names.now) c.recovered_in_order.ensures
