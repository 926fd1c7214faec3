use Rattle.std.proofs.Common.{◌≡◌, map, Some, take}
use Rattle.std.specs.Prelude.{slice_get}
use Rattle.schema_build.proofs.assembly.names_at.Given as goal

abbrev pub invariant-loop-place : goal.invariant-loop-place
invariant-loop-place g l =
    map Some l.found.items ≡ map (slice_get (map (λ e. e.name) l.entries)) (take l.place-index l.places)
