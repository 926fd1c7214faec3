use Rattle.std.proofs.Common.{◌+◌, ◌*◌, drop, true}
use Rattle.std.specs.Map.{values_of}
use denote.Param.Weighed.{most}
use Rattle.schema_json.specs.declared.types.TypeOfAttribute.{size-TypeOfAttribute}
use Rattle.schema_syntax_tokens.specs.Laid.{laid}
use Rattle.laws_written.specs.Printed.{lines_pieces}
use Rattle.schema_print_text.specs.Growing.{Leaves}
use Rattle.schema_print_text.specs.PrintedTypes.{printed_entries}
use Rattle.schema_print_text.proofs.types.+push_type.Given as goal

abbrev pub decreases-push_type : goal.decreases-push_type
decreases-push_type g l = 2 * goal.size-push_type g l

abbrev pub decreases-push_variant : goal.decreases-push_variant
decreases-push_variant g l = 2 * goal.size-push_variant g l

abbrev pub decreases-push_record : goal.decreases-push_record
decreases-push_record g l = 2 * most (size-TypeOfAttribute g.row.N.Denot) (values_of l.entries.now) + 2

abbrev pub decreases-push_entries : goal.decreases-push_entries
decreases-push_entries g l = 2 * most (size-TypeOfAttribute g.row.N.Denot) (values_of l.entries.now) + 1

abbrev pub invariant-push_entries-loop-name : goal.invariant-push_entries-loop-name
invariant-push_entries-loop-name g l =
    Leaves l.initial.text l.text (laid
    (lines_pieces true l.base (printed_entries g.N.NameText.components (drop l.name-index l.entries))))
    (laid (lines_pieces true l.base (printed_entries g.N.NameText.components l.entries)))
