use Rattle.std.proofs.Common.{◌++◌, ◌∷◌, map, ap, sym, ◌∙◌, string_bytes, false}
use Rattle.std.proofs.lemmas.Result.{on_ok_weaker}
use Rattle.json.specs.Print.{quoted}
use Rattle.serde_json.specs.View.{items_of}
use Rattle.serde_json.specs.Written.{compact_text, items_text}
use Rattle.cedar_data.specs.NonEmpty.{items_left}
use Rattle.schema_json_values.specs.FragmentValues.{choice_value, list_of}
use Rattle.schema_json_text.proofs.Loops.{opened, item_next, items_over}
use Rattle.schema_json_text.proofs.entity_types.push_choices.Goals as goal

pub loop-choice-init : goal.loop-choice-init
loop-choice-init c =
    let old = string_bytes c.args.out.now in
    let start = ap (λ it. map choice_value (items_left it)) c.into_iter-choice-iterator.ensures.into_iter_gives
    ∙ ap (map choice_value) c.iter-choice-items.ensures in
    opened old (string_bytes c.push_char.new.out) _ 91 c.in_ok-push_char.ensures
    ∙ ap (λ ds. old ++ 91 ∷ items_text false (items_of ds)) start

pub loop-choice-preserved : goal.loop-choice-preserved
loop-choice-preserved c =
    let now = string_bytes c.loop-choice.out in
    let later = c.loop-choice.later in
    let comma = string_bytes c.push_comma.new.out in
    item_next later now
    (string_bytes c.args.out.now ++ compact_text (list_of (map choice_value c.args.choices.now)))
    (choice_value c.in-Some.choice.now) (map choice_value (items_left c.next.new.self)) comma
    (string_bytes c.push_quoted.new.out) c.in_ok-push_comma.ensures
    (c.in_ok-push_quoted.ensures ∙ ap (λ s. comma ++ quoted s) c.as_str.ensures.bytes)
    (sym (ap (λ es. now ++ items_text later (items_of (map choice_value es))) c.in-Some.ensures.steps)
    ∙ c.loop-choice.invariant)

pub returns : goal.returns
returns c =
    on_ok_weaker c.push_char-2.result
    (λ e. items_over choice_value (items_left c.loop-choice.choice-iterator) c.loop-choice.later
    (string_bytes c.loop-choice.out)
    (string_bytes c.args.out.now ++ compact_text (list_of (map choice_value c.args.choices.now)))
    (string_bytes c.push_char-2.new.out) c.in-None.ensures.steps.0 e c.loop-choice.invariant)
    c.push_char-2.ensures
