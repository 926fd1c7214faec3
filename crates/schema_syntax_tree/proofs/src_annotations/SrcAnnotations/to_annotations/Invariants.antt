use Rattle.std.proofs.Common.{◌≡◌, take}
use Rattle.schema_syntax_tree.proofs.src_annotations.SrcAnnotations.to_annotations.Given as goal

abbrev pub invariant-loop-entry : goal.invariant-loop-entry
invariant-loop-entry l = l.copy.items ≡ take l.entry-index l.entry-items
