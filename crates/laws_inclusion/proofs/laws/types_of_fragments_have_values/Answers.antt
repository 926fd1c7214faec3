use Rattle.schema_inclusion_values.specs.Checks.{some_value}
use Rattle.schema_inclusion_values.specs.Ids.{some_id}
use Rattle.laws_inclusion.proofs.Valued.{valued}
use Rattle.laws_inclusion.proofs.laws.types_of_fragments_have_values.Goals as goal

pub returns : goal.returns
returns c = λ f table m formed mean never.
    valued m (λ t o k. (
      some_value (some_id m) t,
      c.types_of_meanings_have_values.ensures m
          (c.faultless_meanings_are_settled.ensures f table m formed mean never) t o k,
    ))
    (c.faultless_meanings_are_settled.ensures f table m formed mean never)
