use Rattle.std.proofs.Common.{◌≡◌, take}
use Rattle.schema_build_recovered_types.proofs.names.name_of.Given as goal

abbrev pub invariant-loop-id : goal.invariant-loop-id
invariant-loop-id l = l.copies.items ≡ take l.id-index l.others
