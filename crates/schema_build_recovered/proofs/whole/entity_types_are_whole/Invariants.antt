use Rattle.std.proofs.Common.{◌≡◌, [], take, All}
use Rattle.schema_build_types.specs.Content.{entity_content}
use Rattle.schema_build_types.specs.Lacks.{entity_lacks}
use Rattle.schema_build_recovered.proofs.whole.entity_types_are_whole.Given as goal

abbrev pub invariant-loop-entry : goal.invariant-loop-entry
invariant-loop-entry l = All (λ e. entity_lacks (entity_content e) ≡ []) (take l.entry-index l.entities)
