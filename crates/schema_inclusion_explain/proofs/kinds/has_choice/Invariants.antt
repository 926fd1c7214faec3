use Rattle.std.proofs.Common.{◌≡◌}
use Rattle.cedar_data.specs.NonEmpty.{items_left}
use Rattle.schema_inclusion_values.specs.Ids.{has_text}
use Rattle.schema_inclusion_check.specs.Parts.{ids_of}
use Rattle.schema_inclusion_explain.proofs.kinds.has_choice.Given as goal

abbrev pub invariant-loop-choice : goal.invariant-loop-choice
invariant-loop-choice l = has_text (ids_of l.choices) l.id ≡ has_text (ids_of (items_left l.choice-iterator)) l.id
