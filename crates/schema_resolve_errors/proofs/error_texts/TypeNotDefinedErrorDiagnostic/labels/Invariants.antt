use Rattle.std.proofs.Common.{◌≡◌, ◌++◌}
use Rattle.cedar_data.specs.NonEmpty.{items_left}
use Rattle.schema_resolve_errors.specs.ErrorTexts.{type_labels}
use Rattle.schema_resolve_errors.proofs.error_texts.TypeNotDefinedErrorDiagnostic.labels.Given as goal

abbrev pub invariant-loop-reference : goal.invariant-loop-reference
invariant-loop-reference l = l.labels.items ++ type_labels (items_left l.reference-iterator)
    ≡ type_labels l.self.undefined_types
