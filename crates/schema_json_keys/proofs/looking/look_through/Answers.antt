use Rattle.std.proofs.Common.{◌≡◌, ℕ, List, Some, None, Bor, sym, ap, ◌∙◌, subst}
use Rattle.std.specs.Prelude.{option_map}
use Rattle.json.specs.Json.{Json}
use Rattle.json.specs.Value.{value_view}
use Rattle.json.proofs.Found.{Some_inj}
use Rattle.schema_json_keys.specs.Keys.{keys_of, FirstAgain}
use Rattle.schema_json_keys.specs.Computed.{first_again}
use Rattle.schema_json_keys.proofs.Firsts.{FirstAgain-found, FirstAgain-none}
use Rattle.schema_json_keys.proofs.looking.look_through.Goals as goal

pub returns-in-Some-clause-repeated : goal.returns-in-Some-clause-repeated
returns-in-Some-clause-repeated c =
    let j = value_view c.in-Ok.value in
    let found : Some c.in-Some.name.now
    ≡ first_again (keys_of j) = sym (ap (option_map (λ (s : Bor (List ℕ)). s.now)) c.in-Some.is)
    ∙ c.in_ok-name.ensures in
    (j, c.in-Ok.ensures.ok, FirstAgain-found (keys_of j) _ (ap Some c.in_ok-from_str-in-Some.ensures.ok ∙ found))

pub returns-clause-repeated : goal.returns-clause-repeated
returns-clause-repeated c = λ name repeated.
    let j = value_view c.in-Ok.value in
    let none : None ≡ first_again (keys_of j) = sym (ap (option_map (λ (s : Bor (List ℕ)). s.now)) c.in-None.is)
    ∙ c.in_ok-name.ensures in
    let same : j ≡ repeated.0 = Some_inj _ _ (sym c.in-Ok.ensures.ok ∙ repeated.1) in
    FirstAgain-none (keys_of j) none name (subst (λ (i : Json). FirstAgain (keys_of i) name) (sym same) repeated.2)

pub returns-clause-numbers : goal.returns-clause-numbers
returns-clause-numbers c = λ none. (value_view c.in-Ok.value, c.in-Ok.ensures.ok, sym c.has_number.ensures ∙ none)
