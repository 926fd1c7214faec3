use Rattle.std.proofs.Common.{◌≡◌, ◌++◌}
use Rattle.cedar_data.specs.NonEmpty.{items_left}
use Rattle.schema_build_errors.specs.UseTexts.{undeclared_labels}
use Rattle.schema_build_errors.proofs.use_errors.UndeclaredEntityTypesErrorDiagnostic.labels.Given as goal

abbrev pub invariant-loop-name : goal.invariant-loop-name
invariant-loop-name l = l.labels.items ++ undeclared_labels (items_left l.name-iterator)
    ≡ undeclared_labels l.self.types
