use Rattle.std.proofs.Common.{◌≡◌, take}
use Rattle.schema_build_text.proofs.captured.namespace_name.Given as goal

abbrev pub invariant-loop-id : goal.invariant-loop-id
invariant-loop-id l = l.others ≡ take l.id-index l.front
