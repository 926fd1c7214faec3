use Rattle.std.proofs.Common.{◌≡◌, map, take}
use Rattle.schema_build_hierarchy.specs.Rows.{is_enum}
use Rattle.schema_build_hierarchy.proofs.external.enum_marks.Given as goal

abbrev pub invariant-loop-entry : goal.invariant-loop-entry
invariant-loop-entry l = l.marks.items ≡ map (λ e. is_enum e.ty.now.kind) (take l.entry-index l.entries)
