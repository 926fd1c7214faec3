use Rattle.std.proofs.Common.{◌≡◌, ◌++◌}
use Rattle.cedar_data.specs.NonEmpty.{items_left}
use Rattle.schema_json_errors.proofs.json_fault_texts.copies.Given as goal

abbrev pub invariant-loop-text : goal.invariant-loop-text
invariant-loop-text l = l.copies.items ++ items_left l.text-iterator ≡ l.texts
