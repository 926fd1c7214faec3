use Rattle.std.proofs.Common.{◌≡◌, [], take, All}
use Rattle.schema_build_types.specs.Content.{action_content}
use Rattle.schema_build_types.specs.Lacks.{context_lacks}
use Rattle.schema_build_recovered.proofs.whole.actions_are_whole.Given as goal

abbrev pub invariant-loop-entry : goal.invariant-loop-entry
invariant-loop-entry l = All (λ a. context_lacks (action_content a).context ≡ []) (take l.entry-index l.actions)
