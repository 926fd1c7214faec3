use Rattle.std.proofs.Common.{drop}
use Rattle.schema_build_text.specs.Growing.{Leaves}
use Rattle.schema_build_text.proofs.Named.{behind_text}
use Rattle.schema_build_text.proofs.names.push_path.Given as goal

abbrev pub invariant-loop-id : goal.invariant-loop-id
invariant-loop-id l = Leaves l.initial.text l.text (behind_text (drop l.id-index l.others)) (behind_text l.others)
