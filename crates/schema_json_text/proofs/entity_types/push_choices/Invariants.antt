use Rattle.std.proofs.Common.{◌≡◌, ◌++◌, map, string_bytes}
use Rattle.serde_json.specs.View.{items_of}
use Rattle.serde_json.specs.Written.{compact_text, items_text}
use Rattle.cedar_data.specs.NonEmpty.{items_left}
use Rattle.schema_json_values.specs.FragmentValues.{choice_value, list_of}
use Rattle.schema_json_text.proofs.entity_types.push_choices.Given as goal

abbrev pub invariant-loop-choice : goal.invariant-loop-choice
invariant-loop-choice l = string_bytes l.out
    ++ items_text l.later (items_of (map choice_value (items_left l.choice-iterator)))
    ≡ string_bytes l.fn.out ++ compact_text (list_of (map choice_value l.choices))
