use Rattle.std.proofs.Common.{◌≡◌, ◌++◌, take}
use Rattle.schema_convert_openings.proofs.openings.push_entries.Given as goal

abbrev pub invariant-loop-entry : goal.invariant-loop-entry
invariant-loop-entry l = l.entries.items ≡ l.fn.entries.items ++ take l.entry-index l.entry-items
