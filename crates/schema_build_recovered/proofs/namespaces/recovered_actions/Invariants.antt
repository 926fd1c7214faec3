use Rattle.std.proofs.Common.{map}
use Rattle.cedar_identifiers.specs.Names.{components_of}
use Rattle.cedar_names.specs.CanonicalText.{namespace}
use Rattle.cedar_names.specs.Definitions.{same_name}
use Rattle.schema_build_types.specs.Content.{action_content}
use Rattle.schema_build_types.specs.Lacks.{context_lacks}
use Rattle.schema_build_text.specs.Readings.{action_reading}
use Rattle.schema_build_recovered.specs.Places.{words_of}
use Rattle.schema_build_recovered.specs.Recovered.{IsRecoveredAction}
use Rattle.schema_build_recovered.proofs.Gathered.{IsGathered}
use Rattle.schema_build_recovered.proofs.namespaces.recovered_actions.Given as goal

abbrev pub invariant-loop-at : goal.invariant-loop-at
invariant-loop-at l =
    IsGathered (λ a. same_name (words_of l.home.words) (namespace (components_of a.0.ty.name)))
    (λ a. action_reading (action_content a)) IsRecoveredAction (λ a. context_lacks (action_content a).context)
    (map (λ x. x.now) l.actions.items) l.at l.rows.items
