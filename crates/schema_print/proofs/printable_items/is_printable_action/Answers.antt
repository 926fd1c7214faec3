use Rattle.std.proofs.Common.{refl}
use Rattle.schema_print.proofs.printable_items.is_printable_action.Goals as goal

pub returns-else-is_record_or_common : goal.returns-else-is_record_or_common
returns-else-is_record_or_common c =
    rw (c.in-Some.is, ← c.is_record_or_common.ensures, c.if-is_record_or_common.false) refl
