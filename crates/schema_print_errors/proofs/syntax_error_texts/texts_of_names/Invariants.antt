use Rattle.std.proofs.Common.{◌≡◌, ◌++◌}
use Rattle.cedar_data.specs.NonEmpty.{items_left}
use Rattle.schema_print_errors.specs.SyntaxErrorTexts.{texts_of_names}
use Rattle.schema_print_errors.proofs.syntax_error_texts.texts_of_names.Given as goal

abbrev pub invariant-loop-name : goal.invariant-loop-name
invariant-loop-name l = l.texts.items ++ texts_of_names (items_left l.name-iterator) ≡ texts_of_names l.names
