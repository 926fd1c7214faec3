use Rattle.std.proofs.Common.{ap, sym, ◌∙◌}
use Rattle.std.specs.Option.{option_map}
use Rattle.std.proofs.lemmas.Result.{IfOk-weaker}
use Rattle.cedar_names.specs.Meaning.{PlainType, no_more}
use Rattle.schema_inclusion_values.specs.Checks.{lost_value}
use Rattle.schema_inclusion_values.specs.Values.{Set, val, no_vals}
use Rattle.schema_inclusion_types.specs.Kinds.{kind_type}
use Rattle.schema_inclusion_types.proofs.lost.lost_unknown.Goals as goal

pub returns-in-Set : goal.returns-in-Set
returns-in-Set c =
    IfOk-weaker c.one_member.result _ _
    (λ found e id lost. e ∙ (ap (option_map (λ v. Set (val v no_vals)))
    (c.lost_empty.ensures id lost ∙ ap (lost_value id lost (PlainType.Rec no_more)) c.element_kind.ensures.says)
    ∙ ap (λ k. lost_value id lost (PlainType.Set (PlainType.Rec no_more)) (kind_type k)) (sym c.in-Set.is)))
    c.one_member.ensures
