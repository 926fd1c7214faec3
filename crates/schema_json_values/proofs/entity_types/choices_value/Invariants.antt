use Rattle.std.proofs.Common.{◌≡◌, ◌++◌, map}
use Rattle.serde_json.specs.View.{view}
use Rattle.cedar_data.specs.NonEmpty.{items_left}
use Rattle.schema_json_values.specs.FragmentValues.{choice_value}
use Rattle.schema_json_values.proofs.entity_types.choices_value.Given as goal

abbrev pub invariant-loop-choice : goal.invariant-loop-choice
invariant-loop-choice l = map view l.items.items ++ map choice_value (items_left l.choice-iterator)
    ≡ map choice_value l.choices
