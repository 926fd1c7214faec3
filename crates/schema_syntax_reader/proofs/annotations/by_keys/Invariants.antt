use Rattle.std.proofs.Common.{drop}
use Rattle.schema_syntax_reader.specs.Collected.{HasRead}
use Rattle.schema_syntax_reader.proofs.annotations.by_keys.Given as goal

abbrev pub invariant-loop-annotation : goal.invariant-loop-annotation
invariant-loop-annotation l = HasRead l.annotations (drop l.annotation-index l.annotations) l.tree.entries
