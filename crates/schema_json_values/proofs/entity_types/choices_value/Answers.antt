use Rattle.std.proofs.Common.{◌≡◌, [], ◌∷◌, ◌++◌, map, sym, ap, ◌∙◌, append_assoc, append-nil, rules}
use Rattle.std.proofs.lemmas.List.{map-append}
use Rattle.serde_json.specs.Data.{string}
use Rattle.serde_json.specs.View.{view}
use Rattle.serde_json.proofs.Views.{view-Array}
use Rattle.cedar_data.specs.NonEmpty.{items_left}
use Rattle.schema_json_values.specs.FragmentValues.{choice_value, list_of}
use Rattle.schema_json_values.proofs.entity_types.choices_value.Goals as goal

pub loop-choice-init : goal.loop-choice-init
loop-choice-init c =
    let start = ap (λ it. map choice_value (items_left it)) c.into_iter-choice-iterator.ensures.into_iter_gives
    ∙ ap (map choice_value) c.iter-choice-items.ensures in
    let none : c.new-items.result.items ≡ [] = search rules in
    ap (λ xs. map view xs ++ map choice_value (items_left c.into_iter-choice-iterator.result)) none ∙ start

pub loop-choice-preserved : goal.loop-choice-preserved
loop-choice-preserved c =
    let old = c.loop-choice.items.items in
    let rest = map choice_value (items_left c.next.new.self) in
    let said : view c.in_ok-text.text ≡ choice_value c.in-Some.choice.now = c.in_ok-text.ensures
    ∙ ap string c.as_str.ensures.bytes in
    ap (λ xs. map view xs ++ rest) c.in_ok-push.ensures.items
    ∙ ap (λ ys. ys ++ rest) (map-append view old (c.in_ok-text.text ∷ []) ∙ ap (λ d. map view old ++ d ∷ []) said)
    ∙ append_assoc (map view old) (choice_value c.in-Some.choice.now ∷ []) rest
    ∙ sym (ap (λ es. map view old ++ map choice_value es) c.in-Some.ensures.steps) ∙ c.loop-choice.invariant

pub returns : goal.returns
returns c =
    let items = c.loop-choice.items in
    view-Array items
    ∙ ap list_of (sym (append-nil (map view items.items))
    ∙ ap (λ es. map view items.items ++ map choice_value es) (sym c.in-None.ensures.steps.0) ∙ c.loop-choice.invariant)
