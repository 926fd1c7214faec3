use Rattle.std.proofs.Common.{◌≡◌, sym, ap, ◌∙◌, subst}
use Rattle.std.specs.Prelude.{MatchOption}
use Rattle.schema_inclusion_values.specs.Admits.{Admits}
use Rattle.schema_inclusion_check.specs.Ordered.{meaning_in_order}
use Rattle.schema_inclusion_check.specs.Raw.{raw_meaning}
use Rattle.schema_inclusion_reasons.specs.Reasons.{IsFirstReason}
use Rattle.schema_inclusion_reasons.specs.FirstReason.{first_reason}
use Rattle.schema_inclusion_explain.proofs.Ordered.{reason_same}
use Rattle.schema_inclusion_explain.proofs.Reading.{raw_read}
use Rattle.schema_inclusion_explain.proofs.laws.the_first_reason_of_built_schemas_is_found.Goals as goal

pub returns : goal.returns
returns c = λ es xs m reads s x.
    let r = raw_meaning es xs in
    let p : meaning_in_order r ≡ m = sym (raw_read es xs) ∙ reads in
    subst (λ f. MatchOption f (Admits m x) (IsFirstReason m x))
    (ap (λ k. first_reason k x) (sym p) ∙ reason_same r x) (c.the_first_reason_is_found.ensures m s x)
