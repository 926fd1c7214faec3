use Rattle.std.proofs.Common.{◌≡◌}
use Rattle.std.specs.List.{list_any}
use Rattle.cedar_data.specs.NonEmpty.{items_left}
use Rattle.schema_build_text.proofs.Plain.{is_plain}
use Rattle.schema_build_text.proofs.captured.names_hold.Given as goal

abbrev pub invariant-loop-name : goal.invariant-loop-name
invariant-loop-name l = list_any is_plain l.names ≡ list_any is_plain (items_left l.name-iterator)
