use Rattle.std.proofs.Common.{◌≡◌, ◌++◌}
use Rattle.cedar_data.specs.NonEmpty.{items_left}
use Rattle.schema_resolve_errors.specs.ErrorTexts.{action_texts}
use Rattle.schema_resolve_errors.proofs.error_texts.action_texts.Given as goal

abbrev pub invariant-loop-action : goal.invariant-loop-action
invariant-loop-action l = l.texts.items ++ action_texts (items_left l.action-iterator) ≡ action_texts l.actions
