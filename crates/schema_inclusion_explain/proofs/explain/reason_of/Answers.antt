use Rattle.std.proofs.Common.{sym, subst}
use Rattle.std.specs.Prelude.{MatchOption}
use Rattle.std.proofs.lemmas.Result.{IfOk-weaker}
use Rattle.schema_inclusion_values.specs.Admits.{Admits}
use Rattle.schema_inclusion_values.specs.Seen.{schema_value}
use Rattle.schema_inclusion_reasons.specs.Reasons.{IsFirstReason}
use Rattle.schema_inclusion_explain.proofs.explain.reason_of.Goals as goal

pub returns : goal.returns
returns c =
    let x = schema_value c.args.value.now in
    IfOk-weaker c.reason_between.result _ _
    (λ r e m reads s. subst (λ o. MatchOption o (Admits m x) (IsFirstReason m x)) (sym e)
    (c.the_first_reason_of_built_schemas_is_found.ensures c.args.schema.now.entities.now c.args.schema.now.actions.now
    m reads s x))
    c.reason_between.ensures
