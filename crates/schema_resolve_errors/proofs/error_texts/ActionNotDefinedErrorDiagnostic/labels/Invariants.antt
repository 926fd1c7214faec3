use Rattle.std.proofs.Common.{◌≡◌, ◌++◌}
use Rattle.cedar_data.specs.NonEmpty.{items_left}
use Rattle.schema_resolve_errors.specs.ErrorTexts.{action_labels}
use Rattle.schema_resolve_errors.proofs.error_texts.ActionNotDefinedErrorDiagnostic.labels.Given as goal

abbrev pub invariant-loop-reference : goal.invariant-loop-reference
invariant-loop-reference l = l.labels.items ++ action_labels (items_left l.reference-iterator) ≡ action_labels l.self.0
