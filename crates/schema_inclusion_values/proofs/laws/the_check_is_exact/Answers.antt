use Rattle.std.proofs.Common.{◌≡◌, Bool, Option, Some, None, refl, subst}
use Rattle.std.specs.Prelude.{MatchOption}
use Rattle.cedar_names.specs.Meaning.{PlainType}
use Rattle.schema_inclusion_values.specs.Values.{Text, Name, Val}
use Rattle.schema_inclusion_values.specs.Checks.{lost_value}
use Rattle.schema_inclusion_values.specs.Formed.{Told, TellsLost, Distinct, Formed, Includes, Refutes}
use Rattle.schema_inclusion_values.proofs.Sound.{keeps}
use Rattle.schema_inclusion_values.proofs.Evidence.{shows}
use Rattle.schema_inclusion_values.proofs.laws.the_check_is_exact.Goals as goal

module _ (old new : Name → Text → Bool) (id_of : Name → Text) (lost : Name
    → Option Text) (tells : TellsLost old new lost) where
  kept : (n : Name) → lost n ≡ None → (id : Text) → Told old n id → Told new n id
  kept n e = subst (λ o. MatchOption o ((id : Text) → Told old n id → Told new n id) (λ id. Told old n id
      × (Told new n id → ⊥))) e (tells n)

  gone : (n : Name) (id : Text) → lost n ≡ Some id → Told old n id × (Told new n id → ⊥)
  gone n id e = subst (λ o. MatchOption o ((id : Text) → Told old n id → Told new n id) (λ id. Told old n id
      × (Told new n id → ⊥))) e (tells n)

  by_found : (t u : PlainType) → Formed (Told old) id_of t → Distinct u → (o : Option Val) → lost_value id_of lost t u
      ≡ o → MatchOption o (Includes old new t u) (Refutes old new t u)
  by_found t u f d None e = keeps (Told old) (Told new) id_of lost kept t u e
  by_found t u f d (Some v) e = shows (Told old) (Told new) id_of lost gone t u f d v e

pub returns : goal.returns
returns c = λ old new id_of lost tells t u f d. by_found old new id_of lost tells t u f d
    (lost_value id_of lost t u) refl
